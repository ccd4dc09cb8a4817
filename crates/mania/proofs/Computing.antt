-- A worked example says `unfolding computing`, and then all that the rules are made of computes. Assumes nothing.

unfoldable pub computing : Unit {0}
unfolding lib.Ieee.round lib.Ieee.size lib.Ieee.span lib.Ieee.climb lib.Ieee.odd lib.Ieee.units lib.Ieee.neg lib.Ieee.sum lib.Ieee.add lib.Ieee.sub lib.Ieee.mul lib.Ieee.div lib.Ieee.lt lib.Ieee.eq lib.Ieee.le lib.Ieee.of_int lib.Ieee.of_fields lib.Ieee.of_bits lib.Ieee.to_bits lib.Count.ones lib.Count.ones_in lib.Count.count_trailing_zeros Rattle.rules.specs.Rule.◌>>=◌ Rattle.rules.specs.Rule.label Rattle.rules.specs.Rule.after Rattle.rules.specs.Rule.drawing_until Rattle.rules.specs.Rule.run Rattle.rules.specs.Rule.taken Rattle.rules.specs.Ledger.ledger_until Rattle.rules.specs.Ledger.ledger Rattle.rules.specs.Ledger.largest Rattle.random.specs.Generator.twisted Rattle.random.specs.Generator.mixed Rattle.random.specs.Generator.next Rattle.random.specs.Generator.low Rattle.random.specs.Generator.values Rattle.random.specs.Generator.steps Rattle.random.specs.Generator.between Rattle.random.specs.Generator.unit Rattle.floats.specs.Narrow.narrowed Rattle.floats.specs.Whole.above Rattle.floats.specs.Whole.rounded Rattle.floats.specs.Whole.whole Rattle.floats.specs.Root.whole_root Rattle.floats.specs.Root.nearest_root Rattle.floats.specs.Root.root Rattle.floats.specs.Range.in_range Rattle.floats.specs.Ticks.ticks Rattle.chart.specs.Bytes.Bytes Rattle.chart.specs.Bytes.be Rattle.chart.specs.Bytes.num Rattle.chart.specs.Bytes.splice Rattle.chart.specs.Chart.note_bytes Rattle.chart.specs.Chart.body Rattle.chart.specs.Chart.header Rattle.chart.specs.Chart.encode Rattle.chart.specs.Chart.note_of Rattle.chart.specs.Chart.notes_of Rattle.chart.specs.Chart.Holds Rattle.chart.specs.Chart.lasts Rattle.chart.specs.Chart.note_tests Rattle.chart.specs.Chart.ok_note Rattle.chart.specs.Chart.ok_notes Rattle.chart.specs.Chart.ok_row Rattle.chart.specs.Chart.ok_rows Rattle.chart.specs.Chart.columns_of Rattle.chart.specs.Chart.count_of Rattle.chart.specs.Chart.draws_of Rattle.chart.specs.Chart.head_tests Rattle.chart.specs.Chart.ok_head Rattle.chart.specs.Chart.ok_chart Rattle.chart.specs.Chart.score_of Rattle.chart.specs.Chart.decode Rattle.chart.specs.Chart.reading_of Rattle.chart.specs.Chart.reading Rattle.chart.specs.Chart.note_by Rattle.chart.specs.Chart.head Rattle.chart.specs.Chart.version_of Rattle.model.specs.ControlPoint.beat_from Rattle.model.specs.ControlPoint.beat_at Rattle.model.specs.ControlPoint.velocity_from Rattle.model.specs.ControlPoint.velocity_at Rattle.model.specs.ControlPoint.kiai_from Rattle.model.specs.ControlPoint.kiai_at Rattle.model.specs.Totals.break_time Rattle.model.specs.Totals.first_start Rattle.model.specs.Totals.last_start Rattle.model.specs.Totals.longer Rattle.model.specs.Totals.sliders_and_spinners Rattle.chart.specs.Order.rank Rattle.chart.specs.Order.insert Rattle.chart.specs.Order.arranged Rattle.mania.specs.Chart.in_walk_order Rattle.mania.specs.Chart.pattern_of Rattle.mania.specs.Chart.patterns_from Rattle.mania.specs.Chart.body Rattle.mania.specs.Chart.written Rattle.mania.specs.Convert.seed Rattle.mania.specs.Convert.columns_by_od Rattle.mania.specs.Convert.columns_by_share Rattle.mania.specs.Convert.columns_at Rattle.mania.specs.Convert.columns_by Rattle.mania.specs.Convert.target_columns Rattle.mania.specs.Convert.keys_or Rattle.mania.specs.Convert.columns_of Rattle.mania.specs.Convert.beginning Rattle.mania.specs.Convert.meets Rattle.mania.specs.Convert.difficulty_of Rattle.mania.specs.Convert.song_facts Rattle.mania.specs.Convert.facts_at Rattle.mania.specs.Convert.node_time Rattle.mania.specs.Convert.nodes Rattle.mania.specs.Convert.span_in Rattle.mania.specs.Convert.leaves Rattle.mania.specs.Convert.time_after Rattle.mania.specs.Convert.position_after Rattle.mania.specs.Convert.walk_after Rattle.mania.specs.Convert.after_object Rattle.mania.specs.Convert.object_in Rattle.mania.specs.Convert.walk Rattle.mania.specs.Convert.convert Rattle.mania.specs.EndTimeObject.lasting Rattle.mania.specs.EndTimeObject.end_column Rattle.mania.specs.EndTimeObject.note_column Rattle.mania.specs.EndTimeObject.end_note Rattle.mania.specs.EndTimeObject.generate Rattle.mania.specs.HitObject.near Rattle.mania.specs.HitObject.type_by_time Rattle.mania.specs.HitObject.type_by_sound Rattle.mania.specs.HitObject.new Rattle.mania.specs.HitObject.add_note Rattle.mania.specs.HitObject.image Rattle.mania.specs.HitObject.add_one Rattle.mania.specs.HitObject.add_each Rattle.mania.specs.HitObject.reversed Rattle.mania.specs.HitObject.stacked Rattle.mania.specs.HitObject.stair_column Rattle.mania.specs.HitObject.reverse_stair_column Rattle.mania.specs.HitObject.next_of Rattle.mania.specs.HitObject.add_random Rattle.mania.specs.HitObject.generate_random_notes Rattle.mania.specs.HitObject.percent Rattle.mania.specs.HitObject.caps Rattle.mania.specs.HitObject.capped Rattle.mania.specs.HitObject.count_of Rattle.mania.specs.HitObject.add_special Rattle.mania.specs.HitObject.generate_random_pattern Rattle.mania.specs.HitObject.halved Rattle.mania.specs.HitObject.mirrored_chances Rattle.mania.specs.HitObject.add_pair Rattle.mania.specs.HitObject.add_mirrored Rattle.mania.specs.HitObject.add_centre Rattle.mania.specs.HitObject.mirror_from Rattle.mania.specs.HitObject.at_centre Rattle.mania.specs.HitObject.mirror_notes Rattle.mania.specs.HitObject.half Rattle.mania.specs.HitObject.unmirrored Rattle.mania.specs.HitObject.generate_random_pattern_with_mirrored Rattle.mania.specs.HitObject.mirrored_by Rattle.mania.specs.HitObject.chances_by Rattle.mania.specs.HitObject.some Rattle.mania.specs.HitObject.alone Rattle.mania.specs.HitObject.cycles Rattle.mania.specs.HitObject.generate_core Rattle.mania.specs.HitObject.turned Rattle.mania.specs.HitObject.stair_after Rattle.mania.specs.HitObject.generate Rattle.mania.specs.Job.refusing Rattle.mania.specs.Job.ending Rattle.mania.specs.Job.under Rattle.mania.specs.Job.ledger_under Rattle.mania.specs.Job.job Rattle.mania.specs.LimitedQueue.last_seven Rattle.mania.specs.LimitedQueue.density_of Rattle.mania.specs.LimitedQueue.compute_density Rattle.mania.specs.LimitedQueue.unknown_density Rattle.mania.specs.Made.circle Rattle.mania.specs.ManiaObject.width Rattle.mania.specs.ManiaObject.column Rattle.mania.specs.ManiaObject.column_to_pos Rattle.mania.specs.Object.by_kind Rattle.mania.specs.Object.object Rattle.mania.specs.PathObject.adjusted_beat Rattle.mania.specs.PathObject.distance_of Rattle.mania.specs.PathObject.head_sound Rattle.mania.specs.PathObject.start_time Rattle.mania.specs.PathObject.end_time Rattle.mania.specs.PathObject.span_length Rattle.mania.specs.PathObject.new Rattle.mania.specs.PathObject.add_slider_note Rattle.mania.specs.PathObject.note_of Rattle.mania.specs.PathObject.any_column Rattle.mania.specs.PathObject.find_column Rattle.mania.specs.PathObject.head_column Rattle.mania.specs.PathObject.add_holds Rattle.mania.specs.PathObject.generate_random_hold_notes Rattle.mania.specs.PathObject.add_row Rattle.mania.specs.PathObject.generate_random_notes Rattle.mania.specs.PathObject.add_stair Rattle.mania.specs.PathObject.generate_stair Rattle.mania.specs.PathObject.legacy Rattle.mania.specs.PathObject.other_column Rattle.mania.specs.PathObject.add_rows Rattle.mania.specs.PathObject.generate_random_multiple_notes Rattle.mania.specs.PathObject.percent Rattle.mania.specs.PathObject.caps Rattle.mania.specs.PathObject.capped Rattle.mania.specs.PathObject.two_notes Rattle.mania.specs.PathObject.generate_n_random_notes Rattle.mania.specs.PathObject.add_tiles Rattle.mania.specs.PathObject.generate_tiled_hold_notes Rattle.mania.specs.PathObject.add_beside Rattle.mania.specs.PathObject.add_besides Rattle.mania.specs.PathObject.one_or_two Rattle.mania.specs.PathObject.beside_count Rattle.mania.specs.PathObject.generate_hold_and_normal_notes Rattle.mania.specs.PathObject.tile_limit Rattle.mania.specs.PathObject.generate_spans Rattle.mania.specs.PathObject.chances_by Rattle.mania.specs.PathObject.generate_span Rattle.mania.specs.PathObject.generate_core Rattle.mania.specs.PathObject.others Rattle.mania.specs.PathObject.ending Rattle.mania.specs.PathObject.split Rattle.mania.specs.PathObject.generate Rattle.mania.specs.Pattern.free Rattle.mania.specs.Pattern.any_free Rattle.mania.specs.Pattern.empty Rattle.mania.specs.Pattern.put Rattle.mania.specs.Pattern.add Rattle.mania.specs.PatternGenerator.random_start Rattle.mania.specs.PatternGenerator.get_column Rattle.mania.specs.PatternGenerator.note_count Rattle.mania.specs.PatternGenerator.get_random_note_count Rattle.mania.specs.PatternGenerator.get_random_column Rattle.mania.specs.PatternGenerator.next_column Rattle.mania.specs.PatternGenerator.step_to Rattle.mania.specs.PatternGenerator.draw_to Rattle.mania.specs.PatternGenerator.search_on Rattle.mania.specs.PatternGenerator.column_search Rattle.mania.specs.PatternGenerator.find_available_column Rattle.mania.specs.PatternGenerator.or_ten_thousand Rattle.mania.specs.PatternGenerator.drain_time Rattle.mania.specs.PatternGenerator.difficulty_by Rattle.mania.specs.PatternGenerator.conversion_difficulty Rattle.mania.specs.PatternType.stair_bit Rattle.mania.specs.PatternType.◌⊔ₜ◌ Rattle.mania.specs.PatternType.contains Rattle.mania.specs.Single.pattern_fits Rattle.mania.specs.Single.allowed_difficulty Rattle.mania.specs.Single.settings_fit Rattle.mania.specs.Single.points_fit Rattle.mania.specs.Single.position_fits Rattle.mania.specs.Single.distance_fits Rattle.mania.specs.Single.node_fits Rattle.mania.specs.Single.kind_fits Rattle.mania.specs.Single.object_fits Rattle.mania.specs.Single.with_room Rattle.mania.specs.Single.entry_refusal Rattle.mania.specs.Single.refusing Rattle.mania.specs.Single.ending Rattle.mania.specs.Single.single_object Rattle.model.specs.Sound.has_flag Rattle.floats.specs.Least.least Rattle.floats.specs.Least.greatest Rattle.floats.specs.Least.clamped
computing = tt
