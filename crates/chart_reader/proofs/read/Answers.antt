-- `chart_reader::read` meets its contract. A refusal says that the header fails (`refused_head`) or that a row does (`refused_rows`).
-- Assumes nothing.
use mathlib.Core.Path.{◌≡◌, refl, sym, ◌∙◌}
use mathlib.Core.Bool.{Bool, true, false}
use mathlib.Core.List.{List}
use Prim.Native.Nat.{ℕ}
use native.Mathlib.Nat.{le_of_eq}
use native.Mathlib.Omega.{arith}
use Rattle.std.specs.Prelude as Std
use Rattle.std.specs.Prelude.{Some, None, cond, drop}
use Rattle.std.proofs.lemmas.Result.{err_from_is_err_and}
use Rattle.rules.specs.declared.Refusal.TheVariants.{BrokenChart}
use Rattle.chart.specs.declared.Header.{Header}
use Rattle.chart.specs.Chart.{ok_head, version_of, columns_of, count_of, draws_of}
use Rattle.chart.specs.Bytes.{Bytes}
use Rattle.chart.specs.Laws.Bytes.{num_fits, bytes_drop}
use Rattle.chart.specs.Laws.Reader.{refused_head, refused_rows, all_pass, head_size_law}
use borrow.Author.Rules.{rules}
use Rattle.chart_reader.proofs.read.Goals as goal

module _ (s : List ℕ) where
  abbrev said : Header
  said = record { version = version_of s; columns = columns_of s; notes = count_of s; draws = draws_of s }

  -- a header that is there passes, and says what the bytes say
  known : (h : Header) → ◌≡◌ {A = Std.Option Header} (Some h) (cond (ok_head s) (Some said) None) → (ok_head s ≡ true) × (h ≡ said)
  known h e = by_test (ok_head s) refl
    where
      by_test : (t : Bool) → ok_head s ≡ t → (ok_head s ≡ true) × (h ≡ said)
      by_test true ok = let is : ◌≡◌ {A = Std.Option Header} (Some h) (Some said) = rw ok at e in (ok, cc)
      by_test false bad = absurd (let is : ◌≡◌ {A = Std.Option Header} (Some h) None = rw bad at e in let z : ◌≡◌ {A = ℕ} 0 1 = cc in omega arith)

  -- one that is not there fails
  unknown : ◌≡◌ {A = Std.Option Header} None (cond (ok_head s) (Some said) None) → ok_head s ≡ false
  unknown e = by_test (ok_head s) refl
    where
      by_test : (t : Bool) → ok_head s ≡ t → ok_head s ≡ false
      by_test false bad = bad
      by_test true ok = absurd (let is : ◌≡◌ {A = Std.Option Header} None (Some said) = rw ok at e in let z : ◌≡◌ {A = ℕ} 0 1 = cc in omega arith)

pub returns-in_err-header : goal.returns-in_err-header
returns-in_err-header c =
    let bad = unknown c.args.chart.now (sym c.in_err-header.ensures.ok_part ∙ c.header_of.ensures) in
    let p = err_from_is_err_and c.from_residual.result c.from_residual.ensures.1 in
    let value = rw c.in_err-header.ensures.ok_part at c.in_err-header.ensures.value in
    let number : c.in_err-header.field-0.0 ≡ BrokenChart = cc in
    rw (p.1, p.2, number) (refused_head _ bad)

pub rows_ok-requires : goal.rows_ok-requires
unfolding columns_of count_of Bytes
rows_ok-requires c =
    let few = num_fits 3 (drop 1 c.args.chart.now) (bytes_drop 1 c.args.chart.now (λ i. search rules)) in
    let k = known c.args.chart.now c.in_ok-header.header (sym c.in_ok-header.ensures.ok_part ∙ c.header_of.ensures) in
    let size = head_size_law _ k.0 in
    rw k.1 (search rules, le_of_eq (sym size), omega (arith, few))

pub returns-then-not-rows_ok : goal.returns-then-not-rows_ok
returns-then-not-rows_ok c =
    let k = known c.args.chart.now c.in_ok-header.header (sym c.in_ok-header.ensures.ok_part ∙ c.header_of.ensures) in
    refused_rows _ (rw k.1 at (sym c.rows_ok.ensures ∙ c.if-not-rows_ok.true))

pub returns : goal.returns
returns c =
    let k = known c.args.chart.now c.in_ok-header.header (sym c.in_ok-header.ensures.ok_part ∙ c.header_of.ensures) in
    rw k.1 (all_pass _ k.0 (rw k.1 at (sym c.rows_ok.ensures ∙ c.if-not-rows_ok.false)))
