-- What a read answers lies in the text: the description is a part of it, and the detail of a fault is one of its lines, or of 2 which
-- required line is missing. Places behind the last item keep their values. Assumes nothing.
use mathlib.Core.Path.{◌≡◌, refl, sym, ◌∙◌, ap}
use mathlib.Core.Bool.{Bool, true, false}
use mathlib.Core.List.{List, [], ◌∷◌}
use mathlib.Core.Logic.{inl, inr}
use Prim.Native.Nat.{ℕ, zero, suc, ◌+◌, ◌^◌, ◌≤◌, ◌<◌}
use native.Mathlib.Omega.{arith}
use lib.Dec.{ltb}
use lib.ListN.{length, drop, length-map}
use lib.Seq.{drop-set-lt, drop-append_seam}
use borrow.Author.Tests.{ltb-true, ltb-false}
use Rattle.base.specs.Tables.{over}
use Rattle.listing.specs.Refusals.{DetailOf}
use Rattle.listing.proofs.Details.{lines_few, says_lines, fault_line}
use Rattle.scl.specs.Table.{ItemTable, item_table, kind_of, cents_of, numer_of, denom_at, implicit, written_at}
use Rattle.scl.specs.declared.Item.{Item}
use Rattle.scl_tables.specs.Room.{room_of}
use Rattle.scl_tables.proofs.Theorems.{list_leaves}
use Rattle.sorted.specs.Lent.{ListTable, list_table, places_of, ratios_of, wraps_of}
use Rattle.sorting.specs.Entries.{Entry}
use Rattle.text.proofs.LinesLanguage.{the_lines}
use Rattle.text.proofs.Placed.{placed_turn, placed_end}
use Rattle.text.proofs.Shown.{within, line_turn}
use Rattle.text.specs.Cut.{cut}
use Rattle.text.specs.Lines.{Lines}
use Rattle.text.specs.Placed.{placed_from}
use Rattle.text.specs.ReadLine.{strictly, InText}
use Rattle.text.specs.declared.line.LineSays.{LineSays}
use Rattle.text.specs.declared.line.LineSays.TheVariants.{NotUtf8, Blank, Comment, Content}
use Rattle.scl_read.specs.Language.{ScaleText, FaultText}
use Rattle.scl_read.specs.Reader.{first_content, description_in, items_read, written_from, after_items, after_sorted}
use Rattle.scl_read.proofs.Ends.{lines_usable, lines_held}
use Rattle.scl_read.proofs.Language.{accepts, text_reading}
use Rattle.scl_read.proofs.Leaves.{leaves_list}

-- ---- the description
abbrev AllIn : List ℕ → List LineSays → Type 0
AllIn text [] = Unit {0}
AllIn text (x ∷ xs) = InText text x × AllIn text xs

all_in : (n : ℕ) (text : List ℕ) (at : ℕ) → length text ≤ at + n → AllIn text (placed_from at (drop at text))
all_in zero text at h = rw (placed_end text at (omega arith)) tt
all_in (suc n) text at h = go (ltb at (length text)) refl (all_in n text)
  where
    go : (b : Bool) → ltb at (length text) ≡ b → ((k : ℕ) → length text ≤ k + n → AllIn text (placed_from k (drop k text))) →
        AllIn text (placed_from at (drop at text))
    go false p ih = rw (placed_end text at (ltb-false at (length text) p)) tt
    go true p ih =
        let z = ltb-true at (length text) p in
        let l = cut at (drop at text) in
        let t = line_turn strictly text at z {l = l} refl refl in
        rw (placed_turn text at z {l = l} refl) (within strictly text at l.end (omega arith), ih l.next (omega (arith, t.moves)))

first_in : (text : List ℕ) (xs : List LineSays) → AllIn text xs →
    ((first_content xs).start ≤ (first_content xs).end) × ((first_content xs).end ≤ length text)
first_in text [] a = (omega arith, omega arith)
first_in text (NotUtf8 ∷ xs) a = first_in text xs a.1
first_in text (Blank ∷ xs) a = first_in text xs a.1
first_in text (Comment ∷ xs) a = first_in text xs a.1
first_in text (Content s e t ∷ xs) a = (omega (arith, a.0), omega (arith, a.0))

-- it is a part of the text, whatever the text
pub description_inside : (text : List ℕ) → ((description_in text).start ≤ (description_in text).end) × ((description_in text).end ≤ length text)
unfolding description_in
description_inside text = first_in text (placed_from 0 text) (all_in (length text) text 0 (omega arith))

-- ---- the detail of a fault: a line of the text or 0, of 2 which of the two required lines is missing
pub detail_line : {s : List ℕ} {n d room : ℕ} {ls : List (List ℕ)} → FaultText s n d room → Lines s ls → DetailOf (length ls) 2 n d
detail_line (FaultText.no_place e p) l = inl (omega (arith, p))
detail_line {n = n} {d = d} (FaultText.at_lines places says t f) l = rw (says_lines t l) at (fault_line f)

-- so it is below 2 ^ 56 where the text is no longer than that
pub detail_small : {s : List ℕ} {n d room : ℕ} → FaultText s n d room → length s < 2 ^ 56 → d < 2 ^ 56
detail_small {s} f h = elim (detail_line f (the_lines s)) [
  | inl e ↦ omega (arith, e, lines_few (the_lines s), h)
  | inr e ↦ omega (arith, e.2)
]

-- ---- the places behind the last item keep their values
abbrev pub behind : ℕ → ItemTable → ItemTable
behind n t = item_table (drop n t.kinds) (drop n t.cents) (drop n t.numers) (drop n t.denoms)

abbrev pub behind_list : ℕ → ListTable → ListTable
behind_list n l = list_table (drop n l.places) (drop n l.ratios) (drop n l.wraps)

behind_at : (n : ℕ) (t : ItemTable) (place : ℕ) (i : Item) → place < n → behind n (written_at t place i) ≡ behind n t
behind_at n t place i h = rw (
  drop-set-lt n t.kinds place (kind_of i) h,
  drop-set-lt n t.cents place (cents_of i) h,
  drop-set-lt n t.numers place (numer_of i) h,
  drop-set-lt n t.denoms place (denom_at i) h,
)

behind_from : (n : ℕ) (t : ItemTable) (k : ℕ) (is : List Item) → k + length is ≤ n → behind n (written_from t k is) ≡ behind n t
unfolding written_from
behind_from n t k [] h = refl
behind_from n t k (i ∷ is) h = behind_from n (written_at t k i) (k + 1) is (omega arith) ∙ behind_at n t k i (omega arith)

drop_over : {A : Type 0} (new old : List A) (n : ℕ) → length new ≡ n → drop n (over old new) ≡ drop n old
drop_over new old n e = rw (sym e) (drop-append_seam new (drop (length new) old))

module _ (text : List ℕ) (t : ItemTable) (l : ListTable) {d : List ℕ} {items : List Item} {list : List Entry}
    (s : ScaleText text d items list) (fits : length items < room_of t l) where
  -- of the items
  pub read_behind : behind (length items + 1) (after_items text t l) ≡ behind (length items + 1) t
  read_behind =
      let e = ((accepts (room_of t l) text d items list).1 (s, fits)).0 in
      let n = ap length (text_reading s).given in
      rw e (behind_from (length items + 1) t 0 (items_read text) (omega (arith, n)))

  -- and of the sorted list
  pub list_behind : behind_list (length items + 1) (after_sorted text t l) ≡ behind_list (length items + 1) l
  list_behind =
      let so = (text_reading s).sorted in
      let leaves = list_leaves (implicit ∷ items) (omega arith) (lines_held s.lines) (lines_usable s.lines) list so in
      let n : length list ≡ length items + 1 = leaves.size ∙ omega arith in
      rw (leaves_list text t l s fits).1 (rw (
        drop_over (places_of list) l.places (length items + 1) (length-map list (λ (e : Entry). e.place) ∙ n),
        drop_over (ratios_of list) l.ratios (length items + 1) (length-map list (λ (e : Entry). e.ratio) ∙ n),
        drop_over (wraps_of list) l.wraps (length items + 1) (length-map list (λ (e : Entry). e.wraps) ∙ n),
      ))
