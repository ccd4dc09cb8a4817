-- `slider_times::head_sound` meets its contract. Assumes nothing.
use Rattle.std.specs.Prelude.{◌≡◌, refl, ℕ, Option, None, Some}
use Rattle.std.specs.Option.{unwrap_or}
use Rattle.std.proofs.Common.{◌∙◌}
use Rattle.mania.specs.PathObject.{head_sound}
use Rattle.slider_times.proofs.head_sound.Goals as goal

given : (node : Option ℕ) (sound : ℕ) → unwrap_or node sound ≡ head_sound node sound
unfolding head_sound
given None sound = refl
given (Some s) sound = refl

pub returns : goal.returns
returns c = c.unwrap_or.ensures ∙ given c.args.node c.args.sound
