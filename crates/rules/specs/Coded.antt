-- The numbers of the code's refusals, and of an answer that may be one. Assumes nothing.
use Rattle.std.specs.Prelude.{ℕ, Result, Ok, Err}
use Rattle.rules.specs.Numbers as Numbers
use Rattle.rules.specs.declared.Refusal.{Refusal}
use Rattle.rules.specs.declared.Refusal.TheVariants.{FieldNotWhole, Version, KeyChoice, Setting, BreakOrPoint, Object, Filling, SliderEnd, NoColumn, OffDeck, ChartTooShort, NoDrawLeft, ColumnsOrPrevious, BrokenChart, SheetTooShort, LongSearch, Times, ColumnOffDeck, ListTooShort, Range, Counts, NotWhole, TextTooShort, HitObjects}

abbrev pub code : Refusal → ℕ
code FieldNotWhole = Numbers.field_not_whole
code Version = Numbers.version
code KeyChoice = Numbers.key_choice
code Setting = Numbers.setting
code BreakOrPoint = Numbers.break_or_point
code Object = Numbers.object
code Filling = Numbers.filling
code SliderEnd = Numbers.slider_end
code NoColumn = Numbers.no_column
code OffDeck = Numbers.off_deck
code ChartTooShort = Numbers.chart_too_short
code NoDrawLeft = Numbers.no_draw_left
code ColumnsOrPrevious = Numbers.columns_or_previous
code BrokenChart = Numbers.broken_chart
code SheetTooShort = Numbers.sheet_too_short
code LongSearch = Numbers.long_search
code Times = Numbers.times
code ColumnOffDeck = Numbers.column_off_deck
code ListTooShort = Numbers.list_too_short
code Range = Numbers.range
code Counts = Numbers.counts
code NotWhole = Numbers.not_whole
code TextTooShort = Numbers.text_too_short
code HitObjects = Numbers.hit_objects

-- 0 where nothing is refused
abbrev pub refusal_code : {A : Type 0} → Result A Refusal → ℕ
refusal_code (Ok a) = 0
refusal_code (Err r) = code r
