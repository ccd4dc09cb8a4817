-- The bench table's job from its bytes: key choice 9, settings 0, multiplier 1, and one hold at 1000 for 300. Assumes nothing.
use mathlib.Core.Path.{◌≡◌, refl}
use Prim.Native.Nat.{ℕ}
use mathlib.Core.List.{List, [], ◌∷◌}
use lib.ListN.{replicate}
use Rattle.mania.specs.Job.{accepted}
use Rattle.mania.proofs.Computing.{computing}
use Rattle.job.specs.Job.{job}

abbrev holding : List ℕ
holding =
    0x19 ∷ 0 ∷ 0 ∷ 0 ∷ 0 ∷ 0 ∷ 0 ∷ 0 ∷ 0 ∷ 0 ∷ 0 ∷ 0 ∷ 0 ∷ 0 ∷ 0 ∷ 0 ∷ 0
    ∷ 0x3f ∷ 0xf0 ∷ 0 ∷ 0 ∷ 0 ∷ 0 ∷ 0 ∷ 0
    ∷ 0 ∷ 0 ∷ 0 ∷ 0 ∷ 0 ∷ 0 ∷ 1
    ∷ 0xc0 ∷ 0 ∷ 0 ∷ 0 ∷ 0 ∷ 0 ∷ 0 ∷ 0 ∷ 1 ∷ 2 ∷ 0x3d ∷ 0 ∷ 0 ∷ 0 ∷ 0 ∷ 0 ∷ 1 ∷ 1 ∷ 0xcb ∷ 0 ∷ 0 ∷ 0 ∷ 0 ∷ 0 ∷ 0 ∷ []

-- with a buffer of 28 bytes lent and one draw allowed
hold_job : job holding (replicate 28 165) 1
    ≡ record {
      answer = accepted 27 0;
      chart =
          0x29 ∷ 0 ∷ 0 ∷ 1 ∷ 0 ∷ 0 ∷ 0 ∷ 1
          ∷ 0x18 ∷ 0 ∷ 0 ∷ 0x40 ∷ 0x8f ∷ 0x40 ∷ 0 ∷ 0 ∷ 0 ∷ 0 ∷ 0 ∷ 0x40 ∷ 0x72 ∷ 0xc0 ∷ 0 ∷ 0 ∷ 0 ∷ 0 ∷ 0 ∷ 165 ∷ [];
    }
unfolding computing lib.Ieee.nan_bits Rattle.bits.specs.Field.bit Rattle.bits.specs.Field.bits Rattle.bits.specs.Field.short Rattle.floats.specs.Range.in_range Rattle.floats.specs.Range.float Rattle.record.specs.Refusal.◌gives◌ Rattle.record.specs.Refusal.◌then◌ Rattle.record.specs.Refusal.fields_refusal Rattle.record.specs.Refusal.f32_at Rattle.record.specs.Refusal.f64_at Rattle.record.specs.Refusal.entries_refusal Rattle.record.specs.Refusal.entries Rattle.record.specs.Refusal.entries_end Rattle.record.specs.Header.header_fields Rattle.record.specs.Header.header_refusal Rattle.record.specs.Header.keys_of Rattle.record.specs.Header.settings_of Rattle.record.specs.Header.counts_of Rattle.record.specs.Section.entry_refusal Rattle.record.specs.Section.no_time Rattle.record.specs.Section.section_refusal Rattle.record.specs.Section.read_break Rattle.record.specs.Section.read_timing_point Rattle.record.specs.Section.read_difficulty_point Rattle.record.specs.Section.read_effect_point Rattle.record.specs.Section.breaks Rattle.record.specs.Section.timing_points Rattle.record.specs.Section.difficulty_points Rattle.record.specs.Section.effect_points Rattle.record.specs.Object.node_bit Rattle.record.specs.Object.slider_end Rattle.record.specs.Object.distance_by Rattle.record.specs.Object.node_by Rattle.record.specs.Object.slider_at Rattle.record.specs.Object.kind_by Rattle.record.specs.Object.kind_end Rattle.record.specs.Object.start_at Rattle.record.specs.Object.read_object Rattle.record.specs.Object.object_end Rattle.record.specs.Object.object_refusal Rattle.record.specs.Object.zero_start Rattle.record.specs.Object.objects_refusal Rattle.record.specs.Object.objects Rattle.record.specs.Object.objects_end Rattle.record.specs.Object.scan Rattle.record.specs.Record.places_of Rattle.record.specs.Record.lists_refusal Rattle.record.specs.Record.fill_refusal Rattle.record.specs.Record.record_end Rattle.record.specs.Record.record_refusal Rattle.record.specs.Record.song_of Rattle.record.specs.Record.parse Rattle.model.specs.ControlPoint.beat_from Rattle.model.specs.ControlPoint.beat_at Rattle.model.specs.ControlPoint.velocity_from Rattle.model.specs.ControlPoint.velocity_at Rattle.model.specs.ControlPoint.kiai_from Rattle.model.specs.ControlPoint.kiai_at Rattle.model.specs.Totals.break_time Rattle.model.specs.Totals.first_start Rattle.model.specs.Totals.last_start Rattle.model.specs.Totals.longer Rattle.model.specs.Totals.sliders_and_spinners Rattle.job.specs.Job.job_of Rattle.job.specs.Job.job
hold_job = refl
