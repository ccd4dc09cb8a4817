-- When a job is refused, number by number. Assumes nothing.
use Rattle.std.specs.Prelude.{◌≡◌, ◌⊎◌, ℕ, ◌≤◌, ◌<◌, List, length, replicate}
use Rattle.rules.specs.Numbers as Numbers
use Rattle.rules.specs.Rule.{refused, spent}
use Rattle.rules.specs.Refusal.{long_search}
use Rattle.rules.specs.Limited.{last_or}
use Rattle.model.specs.Song.{Song}
use Rattle.model.specs.Limits.{search_limit}
use Rattle.mania.specs.Convert.{at}
use Rattle.mania.specs.Refusals.{TooLate, TooLong}
use Rattle.mania.specs.Job.{refusal, under}
use Rattle.mania.specs.Job as OfSong
use Rattle.record.specs.Record.{accepted, parse}
use Rattle.record.specs.Fields.{AllPass, FirstFailing}
use Rattle.chart.specs.Layout.{header_size}
use Rattle.job.specs.Job.{job, ledger}

-- Of the record's bytes with a buffer lent under the allowance a: the condition of a refusal by r at object i after n draws.
pub record Condition (bytes buffer : List ℕ) (a r i n : ℕ) : Type 0 where
  -- the numbers
  pub from : Numbers.field_not_whole ≤ r
  pub to : (r ≤ Numbers.no_draw_left) ⊎ (r ≡ Numbers.long_search)
  -- 1 to 7: the first check of the record that fails, in record order; before the walk, at object 0 and without a draw
  pub unread : r ≤ Numbers.filling → FirstFailing bytes r × (i ≡ 0) × (n ≡ 0)
  -- 8 to 12, and 16: no check of the record fails
  pub whole : Numbers.slider_end ≤ r → AllPass bytes
  -- 8: the objects before made their notes, after n draws, and the object is a slider that ends above 33,554,431
  pub late : r ≡ Numbers.slider_end → (s : Song) × (parse bytes ≡ accepted s) × TooLate s (length buffer) a i n
  -- never 9 or 10: see NeverBlocked.antt
  pub not_9 : r ≡ Numbers.no_column → ⊥
  pub not_10 : r ≡ Numbers.off_deck → ⊥
  -- 11: the buffer does not hold a header, which is at object 0 and without a draw; or it holds the notes of the objects before, and not those of this one
  pub short : r ≡ Numbers.chart_too_short → (s : Song) × (parse bytes ≡ accepted s) × (((length buffer < header_size) × (i ≡ 0) × (n ≡ 0)) ⊎ TooLong s (length buffer) a i n)
  -- 12: a draw was needed and none was left; the whole allowance was drawn
  pub drawn : r ≡ Numbers.no_draw_left → (n ≡ a) × ((s : Song) × (parse bytes ≡ accepted s) × (under s buffer a ≡ spent i a))
  -- 16: one search, the last, made as many draws as it may, and needed one more
  pub long : r ≡ Numbers.long_search → (s : Song) × (parse bytes ≡ accepted s) × (under s buffer a ≡ refused (at i long_search) n) × (last_or 0 (ledger bytes buffer a).searches ≡ search_limit)

-- Of every record's bytes and buffer.
pub record Refusals (bytes buffer : List ℕ) : Type 0 where
  -- a refusal has its condition
  pub holds : (a r i n : ℕ) → (job bytes buffer a).answer ≡ refusal r i n → Condition bytes buffer a r i n
  -- and where a condition holds, the job is refused so
  pub answers : (a r i n : ℕ) → Condition bytes buffer a r i n → (job bytes buffer a).answer ≡ refusal r i n
  -- so that no two conditions hold under one allowance
  pub one : (a r i n r' i' n' : ℕ) → Condition bytes buffer a r i n → Condition bytes buffer a r' i' n' → (r ≡ r') × (i ≡ i') × (n ≡ n')
  -- a refusal zeroes the whole buffer
  pub zeroed : (a r i n : ℕ) → (job bytes buffer a).answer ≡ refusal r i n → (job bytes buffer a).chart ≡ replicate (length buffer) 0
  -- a job to which no condition applies ends in a chart
  pub else : (a : ℕ) → ((r i n : ℕ) → Condition bytes buffer a r i n → ⊥) → (n : ℕ) × (g : ℕ) × ((job bytes buffer a).answer ≡ OfSong.accepted n g)
