-- `nearest_entry` meets its contract: the definition, opened at the choice.
use mathlib.Core.Path.{◌∙◌, ◌≡◌, ap, sym}
use Prim.Native.Nat.{◌-◌, ◌≤◌, ℕ}
use native.Mathlib.Omega.{arith}
use lib.Ieee.{nan}
use lib.ListN.{get_or}
use mir.Facts.{to_z-of_z}
use Rattle.std.specs.Prelude.{Result}
use Rattle.std.proofs.lemmas.Grind.{common_steps}
use Rattle.base.specs.declared.Refusal.{Refusal}
use Rattle.base.specs.Said.{and_then, gives, outcome}
use Rattle.sorting.specs.Entries.{Entry}
use Rattle.sorted.specs.Lent.{list_in, list_table}
use Rattle.relative.specs.Scales.{no_entry}
use Rattle.relative.proofs.Places.{list_at, ratio_reach}
use Rattle.searching.specs.Search.{found_at}
use Rattle.searching.specs.declared.Choice.{Choice}
use Rattle.searching.proofs.Opened.{nearest_told, picked_at}
use Rattle.searching.proofs.nearest_entry.Goals as goal

pub choose-requires : goal.choose-requires
choose-requires c = rw (c.ratio.ensures, c.ratio-2.ensures) (ratio_reach c.args.count c.args.list.now c.requires.0 (c.upper_at-at.result - 1) (omega (arith, c.upper_at-at.ensures.2)), ratio_reach c.args.count c.args.list.now c.requires.0 c.upper_at-at.result c.upper_at-at.ensures.2, c.requires.2)

pub returns-in_err-choice : goal.returns-in_err-choice
returns-in_err-choice c =
    let es = list_in c.args.count c.args.list.now in
    let entry : (i : ℕ) → i ≤ c.args.count → get_or c.args.list.now.ratios i nan ≡ (get_or es i no_entry).ratio = λ i k. ap (λ (e : Entry). e.ratio) (sym (list_at c.args.count c.args.list.now c.requires.0 i k)) in
    let told = nearest_told es c.args.periods c.args.target c.upper_at-at.result (entry (c.upper_at-at.result - 1) (omega (arith, c.upper_at-at.ensures.2))) (entry c.upper_at-at.result c.upper_at-at.ensures.2) c.upper_at-at.ensures.0 (rw (c.ratio.ensures, c.ratio-2.ensures) at c.choose.ensures) in
    let given = rw c.in_err-choice.was at told in
    grind (arith, common_steps, given)

pub returns : goal.returns
returns c =
    let es = list_in c.args.count c.args.list.now in
    let entry : (i : ℕ) → i ≤ c.args.count → get_or c.args.list.now.ratios i nan ≡ (get_or es i no_entry).ratio = λ i k. ap (λ (e : Entry). e.ratio) (sym (list_at c.args.count c.args.list.now c.requires.0 i k)) in
    ap gives (rw (to_z-of_z c.ranges.periods) at c.found_at.ensures)
    ∙ ap (λ (i : ℕ). gives (found_at (get_or es i no_entry) i c.args.periods c.in_ok-choice.choice.deviation)) c.index_of-index.ensures.0
    ∙ ap (λ (a : (Result Choice Refusal)). and_then (outcome a) (picked_at es c.args.periods c.upper_at-at.result)) (sym c.in_ok-choice.was)
    ∙ nearest_told es c.args.periods c.args.target c.upper_at-at.result (entry (c.upper_at-at.result - 1) (omega (arith, c.upper_at-at.ensures.2))) (entry c.upper_at-at.result c.upper_at-at.ensures.2) c.upper_at-at.ensures.0 (rw (c.ratio.ensures, c.ratio-2.ensures) at c.choose.ensures)
