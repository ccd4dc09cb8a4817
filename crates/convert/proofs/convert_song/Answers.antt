-- `convert::convert_song` meets its contract: a job is how its walk ends. Assumes nothing.
use mathlib.Core.Path.{◌≡◌, ap, ◌∙◌, subst}
use Prim.Native.Nat.{ℕ, ◌-◌}
use mathlib.Core.List.{List}
use native.Mathlib.Omega.{arith}
use lib.ListN.{length}
use Rattle.std.specs.Prelude.{Result}
use Rattle.rules.specs.Coded.{code}
use Rattle.model.specs.declared.Settings.{Settings}
use Rattle.random.specs.declared.Draws.{Draws}
use Rattle.random.specs.declared.Random.{Random}
use Rattle.random.specs.Generator.{seeded}
use Rattle.random.specs.Play.{refused, tallied}
use Rattle.record.specs.Record.{song_of}
use Rattle.mania.specs.Convert.{seed}
use Rattle.mania.specs.Walked.{stop}
use Rattle.walk.specs.declared.Song.{Song}
use Rattle.walk.specs.declared.Stopped.{Stopped}
use Rattle.walk.specs.Steps.{Written, Ends}
use Rattle.convert.specs.Ends.{song_rule}
use Rattle.convert.proofs.Songs.{settings_accepted, deck}
use Rattle.convert.proofs.Jobs.{only_length, short, stopped_job, found_left, refused_left, made_holds, made_job}
use Rattle.convert.proofs.convert_song.Goals as goal
use Rattle.convert.proofs.convert_song.Goals.{In-Ok, In-Err}

pub returns-then-chart-lt8 : goal.returns-then-chart-lt8
returns-then-chart-lt8 c =
    c.refused.ensures ∙ short c.args.bytes.now c.args.chart.now c.args.allowance c.requires.parsed c.if-chart-lt8.true

pub seed-requires : goal.seed-requires
seed-requires c = settings_accepted c.args.bytes.now c.args.m c.requires

-- the walk starts at the seed's state
begins : (bytes : List ℕ) (allowance : ℕ) (settings : Settings) (n : ℕ) (r : Random) → r ≡ seeded n → n ≡ seed settings → settings ≡ (song_of bytes).settings
    → ◌≡◌ {A = Draws} (tallied allowance 0 r) (tallied allowance 0 (seeded (seed (song_of bytes).settings)))
begins bytes allowance settings n r e f g = ap (λ (r : Random). tallied allowance 0 r) (e ∙ ap seeded (f ∙ ap seed g))

-- how the walk ended
ended : (bytes chart new : List ℕ) (d d' : Draws) (end : (Result (ℕ × Draws) Stopped)) → d ≡ d' → Ends (song_rule bytes (length chart) d) chart new end → Ends (song_rule bytes (length chart) d') chart new end
ended bytes chart new d d' end e h = subst (λ (d : Draws). Ends (song_rule bytes (length chart) d) chart new end) e h

made : (c : In-Ok)
    → Written (song_rule c.args.bytes.now (length c.args.chart.now) (tallied c.args.allowance 0 (seeded (seed (song_of c.args.bytes.now).settings))))
    c.args.chart.now c.walk_part.new.chart c.in-Ok.notes c.in-Ok.end
made c =
    subst (λ (r : (Result (ℕ × Draws) Stopped)). Ends (song_rule c.args.bytes.now (length c.args.chart.now) (tallied c.args.allowance 0 (seeded (seed (song_of c.args.bytes.now).settings))))
    c.args.chart.now c.walk_part.new.chart r) c.in-Ok.is (ended _ _ _ _ _ _ (begins c.args.bytes.now _ _ _ _ c.from_seed-random.ensures c.seed.ensures c.requires.settings) c.walk_part.ensures)

stops : (c : In-Err)
    → song_rule c.args.bytes.now (length c.args.chart.now) (tallied c.args.allowance 0 (seeded (seed (song_of c.args.bytes.now).settings)))
    ≡ refused (stop c.in-Err.stopped.index (code c.in-Err.stopped.refused.refusal)) c.in-Err.stopped.refused.draws
stops c =
    subst (λ (r : (Result (ℕ × Draws) Stopped)). Ends (song_rule c.args.bytes.now (length c.args.chart.now) (tallied c.args.allowance 0 (seeded (seed (song_of c.args.bytes.now).settings))))
    c.args.chart.now c.walk_part.new.chart r) c.in-Err.is (ended _ _ _ _ _ _ (begins c.args.bytes.now _ _ _ _ c.from_seed-random.ensures c.seed.ensures c.requires.settings) c.walk_part.ensures)

pub overflow_sub-allowance : goal.overflow_sub-allowance
overflow_sub-allowance c =
    found_left c.args.bytes.now c.args.chart.now c.args.allowance c.requires.parsed (length c.args.chart.now) (made (goal.at.overflow_sub-allowance c).In-Ok).nss c.in-Ok.end (made (goal.at.overflow_sub-allowance c).In-Ok).says

pub finish-length-requires : goal.finish-length-requires
finish-length-requires c =
    let columns = ap (λ (g : Song). g.columns) c.song_of-g.ensures in
    (omega (arith, columns, (deck c.args.bytes.now c.args.m c.requires).1), (omega (arith, (made (goal.at.finish-length-requires c).In-Ok).room), made_holds c.args.bytes.now c.args.chart.now c.args.allowance c.requires.parsed (omega (arith, c.if-chart-lt8.false)) c.walk_part.new.chart c.in-Ok.notes c.in-Ok.end (made (goal.at.finish-length-requires c).In-Ok)))

pub overflow_sub-allowance-in-Err : goal.overflow_sub-allowance-in-Err
overflow_sub-allowance-in-Err c =
    refused_left c.args.bytes.now c.args.chart.now c.args.allowance c.requires.parsed (length c.args.chart.now) _ c.in-Err.stopped.refused.draws (stops (goal.at.overflow_sub-allowance-in-Err c).In-Err)

pub returns-in-Ok : goal.returns-in-Ok
returns-in-Ok c =
    let f = c.finish-length in
    made_job c.args.bytes.now c.args.chart.now c.args.allowance c.requires.parsed (omega (arith, c.if-chart-lt8.false)) c.walk_part.new.chart c.in-Ok.notes c.in-Ok.end
    (made (goal.at.returns-in-Ok c).In-Ok) c.song_of-g.result.columns f.result f.new.chart (ap (λ (g : Song). g.columns) c.song_of-g.ensures) f.ensures.value f.ensures.chart_after

pub returns-in-Err : goal.returns-in-Err
returns-in-Err c =
    c.refused-in-Err.ensures
    ∙ only_length (code c.in-Err.stopped.refused.refusal) c.in-Err.stopped.index (c.args.allowance - c.in-Err.stopped.refused.draws.tally.left) c.walk_part.new.chart c.args.chart.now (omega arith)
    ∙ stopped_job c.args.bytes.now c.args.chart.now c.args.allowance c.requires.parsed (omega (arith, c.if-chart-lt8.false)) (code c.in-Err.stopped.refused.refusal) c.in-Err.stopped.index c.in-Err.stopped.refused.draws (stops (goal.at.returns-in-Err c).In-Err)
