-- Worked examples that the definition is held to. Assumes nothing.
use Rattle.std.specs.Prelude.{Some, None}
use mathlib.Core.Path.{◌≡◌, refl}
use Prim.Native.Nat.{ℕ}
use mathlib.Core.List.{[], ◌∷◌}
use lib.Count.{ones}
use lib.ListN.{replicate}
use Rattle.rules.specs.Rule.{Outcome, ended, refused, spent, run}
use Rattle.rules.specs.Refusal.{Refusal}
use Rattle.random.specs.Generator.{values, seeded}
use Rattle.model.specs.declared.Kind.TheVariants.{Slider, Hold}
use Rattle.model.specs.Song.{Song}
use Rattle.mania.specs.Steps.{single, double}
use Rattle.mania.specs.Convert.{Walk, seed}
use Rattle.mania.specs.Reached.{walk_to, reaches}
use Rattle.mania.specs.Job.{accepted, job}
use Rattle.mania.proofs.Computing.{computing}

-- all settings 10: 20 times 20, and 412, and 10
seed_822 : seed (record { hp = single 10 1; cs = single 10 1; od = single 10 1; ar = single 10 1; multiplier = double 1 1 }) ≡ 822
unfolding computing
seed_822 = refl

-- one hold, on 9 columns
abbrev holding : Song
holding =
    record {
      keys = 9;
      settings = record { hp = single 0 1; cs = single 0 1; od = single 0 1; ar = single 0 1; multiplier = double 1 1 };
      breaks = [];
      timing_points = [];
      difficulty_points = [];
      effect_points = [];
      objects = record { position = record { x = single 0 1; y = single 0 1 }; start = double 1000 1; sound = 0; kind = Hold (double 300 1) } ∷ [];
    }

-- its whole job, with a buffer of 28 bytes lent and one draw allowed
hold_job : job holding (replicate 28 165) 1
    ≡ record {
      answer = accepted 27 0;
      chart =
          0x29 ∷ 0 ∷ 0 ∷ 1 ∷ 0 ∷ 0 ∷ 0 ∷ 1
          ∷ 0x18 ∷ 0 ∷ 0 ∷ 0x40 ∷ 0x8f ∷ 0x40 ∷ 0 ∷ 0 ∷ 0 ∷ 0 ∷ 0 ∷ 0x40 ∷ 0x72 ∷ 0xc0 ∷ 0 ∷ 0 ∷ 0 ∷ 0 ∷ 0 ∷ 165 ∷ [];
    }
unfolding computing
hold_job = refl

-- five columns of 8 are reached: a slider of five spans of 500 ms makes five tiled holds, which end together
abbrev tiled : Song
tiled =
    record {
      keys = 8;
      settings = record { hp = single 0 1; cs = single 0 1; od = single 0 1; ar = single 0 1; multiplier = double 1 1 };
      breaks = [];
      timing_points = [];
      difficulty_points = [];
      effect_points = [];
      objects = record { position = record { x = single 0 1; y = single 0 1 }; start = double 0 1; sound = 0; kind = Slider 4 (Some (double 50 1)) None } ∷ [];
    }

abbrev left : Outcome (Unit {0}) Refusal Walk → ℕ
left (ended w n) = ones w.prev.mask
left (refused r n) = 0
left (spent p n) = 0

five_reached : left (run (reaches tiled 1) (values 20 (seeded 0))) ≡ 5
unfolding computing walk_to reaches
five_reached = refl
