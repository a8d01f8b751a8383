-- What a list of structs is beside its columns, and that each call has one result. Document 01, "Scales and searches". Assumes nothing.
use Rattle.std.specs.Prelude.{Result}
use Rattle.scl.specs.declared.Scl.{Scl}
use Rattle.base.specs.declared.Refusal.{Refusal}
use mathlib.Core.Path.{◌≡◌, refl, sym, ◌∙◌, ap, subst}
use mathlib.Core.Bool.{Bool, true, false}
use mathlib.Core.List.{List, [], ◌∷◌, ◌++◌}
use Prim.Native.Nat.{ℕ, zero, suc, ◌+◌, ◌≤◌, ◌<◌, min}
use native.Mathlib.Omega.{arith}
use lib.Dec.{leb}
use lib.ListN.{length, take, drop, length-append, length-drop, length-map}
use lib.Seq.{length-take-le, take_at, drop_at}
use borrow.Author.Tests.{leb-true, leb-false}
use Rattle.base.specs.Numbers.{unusable}
use Rattle.base.specs.Said.{Said, gives, refuses, One, outcome}
use Rattle.base.proofs.Said.{one_result, no_value, one_said}
use Rattle.sorting.specs.Entries.{Entry}
use Rattle.sorting.proofs.Columns.{length_zip}
use Rattle.sorted.specs.Lent.{ListTable, list_in}
use Rattle.scl.specs.Answers.{says_scl}
use Rattle.scl.specs.Table.{ItemTable, Typed}
use Rattle.scl.proofs.Theorems.{scl_one}
use Rattle.scl_tables.specs.Build.{after_list}
use Rattle.scl_tables.specs.Room.{room_of}
use Rattle.scl_build.specs.Builder.{built, counted}
use Rattle.scl_build.specs.declared.SclBuilder.{SclBuilder}
use Rattle.scl_read.specs.Reader.{read_of, given_in, items_after, sorted_after, after_items, after_sorted}
use Rattle.scl_read.specs.declared.SclRead.{SclRead}
use Rattle.scl_read.proofs.Language.{accepts, accepted}
use Rattle.entries.specs.declared.SortedEntry.{SortedEntry}
use Rattle.entries.specs.Entries.{as_entry, as_entries}
use Rattle.entries.specs.Builds.{built_in, after_entries, Holds}
use Rattle.entries.specs.Readings.{read_in, count_read, sorted_read}
use Rattle.entries.specs.Same.{SameList, BuildEntries, ReadEntries}
use Rattle.entries.proofs.Builds.{short_is, long_is, holds_too}
use Rattle.entries.proofs.Readings.{called}

-- ---- the column call's build, with one column more
module _ (b : SclBuilder) (t : ItemTable) (l : ListTable) (places : ℕ) where
  pub build_same : b.room ≤ places → built_in b t l places ≡ built b t l
  build_same = long_is b t l places

  pub build_short : places < b.room → built_in b t l places ≡ refuses unusable 0
  build_short = short_is b t l places

-- ---- a text that is read in some room is read the same in more
more_room : (text : List ℕ) (small room : ℕ) (r : SclRead) → small ≤ room → read_of small text ≡ gives r → read_of room text ≡ gives r
more_room text small room r h e =
    let a = accepted small text r e in
    ((accepts room text a.0 (given_in text) a.1).1 (a.2, omega (arith, a.3, h))).0 ∙ ap gives (sym a.4)

-- ---- a slice of structs is one for its entries
same_entry : (x y : SortedEntry) → as_entry x ≡ as_entry y → x ≡ y
same_entry x y e = λ i. record { place = (e i).place; ratio = (e i).ratio; wraps = (e i).wraps }

abbrev first_of : Entry → List Entry → Entry
first_of e [] = e
first_of e (x ∷ l) = x

abbrev rest_of : List Entry → List Entry
rest_of [] = []
rest_of (x ∷ l) = l

same_entries : (xs ys : List SortedEntry) → as_entries xs ≡ as_entries ys → xs ≡ ys
same_entries [] [] e = refl
same_entries [] (y ∷ ys) e = let z : ◌≡◌ {A = ℕ} 0 (length (as_entries (y ∷ ys))) = ap length e in absurd (omega (arith, z))
same_entries (x ∷ xs) [] e = let z : ◌≡◌ {A = ℕ} (length (as_entries (x ∷ xs))) 0 = ap length e in absurd (omega (arith, z))
same_entries (x ∷ xs) (y ∷ ys) e =
    let h = same_entry x y (ap (first_of (as_entry x)) e) in
    let t = same_entries xs ys (ap rest_of e) in
    λ i. h i ∷ t i

-- ---- "Of a sorted entry, its place, reduced ratio and wraparounds stand together": what a call leaves in the list of structs
take_entries : (n : ℕ) (l : List SortedEntry) → as_entries (take n l) ≡ take n (as_entries l)
take_entries zero l = refl
take_entries (suc n) [] = refl
take_entries (suc n) (e ∷ l) = ap (λ (m : List Entry). as_entry e ∷ m) (take_entries n l)

drop_entries : (n : ℕ) (l : List SortedEntry) → as_entries (drop n l) ≡ drop n (as_entries l)
drop_entries zero l = refl
drop_entries (suc n) [] = refl
drop_entries (suc n) (e ∷ l) = drop_entries n l

module _ {count : ℕ} {left : ListTable} {s : Said (List Entry)} (old es : List SortedEntry) (h : Holds (gives count) left (length old) s) (e : as_entries es ≡ after_entries s (as_entries old)) where
  size : length (list_in count left) ≡ count + 1
  size =
      let lp = length-take-le (count + 1) left.places h.places_room in
      let lr = length-take-le (count + 1) left.ratios h.ratios_room in
      let lw = length-take-le (count + 1) left.wraps h.wraps_room in
      length_zip (take (count + 1) left.places) (take (count + 1) left.ratios) (take (count + 1) left.wraps) (lr ∙ sym lp) (lw ∙ sym lp) ∙ lp

  written : as_entries es ≡ list_in count left ++ drop (length (list_in count left)) (as_entries old)
  written = e ∙ sym (h.stored (as_entries old))

  long : length es ≡ length old
  long =
      let a : length (as_entries es) ≡ length (list_in count left ++ drop (length (list_in count left)) (as_entries old)) = ap length written in
      let b = length-append (list_in count left) (drop (length (list_in count left)) (as_entries old)) in
      let c = length-drop (length (list_in count left)) (as_entries old) in
      let x = length-map es as_entry in
      let y = length-map old as_entry in
      omega (arith, a, b, c, x, y, size, h.list_room)

  same_list : SameList count left es
  same_list = record {
    list_room = omega (arith, long, h.list_room);
    places_room = omega (arith, h.places_room);
    ratios_room = omega (arith, h.ratios_room);
    wraps_room = omega (arith, h.wraps_room);
    same = take_entries (count + 1) es ∙ ap (take (count + 1)) written ∙ take_at (list_in count left) (drop (length (list_in count left)) (as_entries old)) (count + 1) size;
  }

  same_rest : drop (count + 1) es ≡ drop (count + 1) old
  same_rest =
      same_entries (drop (count + 1) es) (drop (count + 1) old)
      (drop_entries (count + 1) es ∙ ap (drop (count + 1)) written ∙ drop_at (list_in count left) (drop (length (list_in count left)) (as_entries old)) (count + 1) size ∙ ap (λ (n : ℕ). drop n (as_entries old)) size ∙ sym (drop_entries (count + 1) old))

-- ---- a build
module _ (b : SclBuilder) (t : ItemTable) (l : ListTable) (old : List SortedEntry) (r : (Result Scl Refusal)) (left : ListTable) (es : List SortedEntry) (c : BuildEntries b t l old r left es) where
  -- ACCEPTED: the list of structs has the list that the columns have, what stood behind it stays, and the columns and the answer are those
  -- of the column call
  pub build_entries_accepted : Typed t → (count : ℕ) → says_scl r ≡ gives count → SameList count left es × (drop (count + 1) es ≡ drop (count + 1) old) × (says_scl r ≡ counted b (built b t l)) × (left ≡ after_list (built b t l) l)
  build_entries_accepted typed count a =
      let h : Holds (gives count) left (length old) (built_in b t l (length old)) = subst (λ (s : Said ℕ). Holds s left (length old) (built_in b t l (length old))) a (holds_too b t l (length old) typed (c.0, c.1)).2 in
      let z = same_build (leb b.room (length old)) refl in
      (same_list old es h c.2, same_rest old es h c.2, c.0 ∙ ap (counted b) z, c.1 ∙ ap (λ (s : Said (List Entry)). after_list s l) z)
    where
      same_build : (x : Bool) → leb b.room (length old) ≡ x → built_in b t l (length old) ≡ built b t l
      same_build true q = long_is b t l (length old) (leb-true b.room (length old) q)
      same_build false q = no_value (ap (counted b) (sym (short_is b t l (length old) (leb-false b.room (length old) q))) ∙ sym c.0 ∙ a)

  -- REFUSED: columns and list are as they were
  pub build_entries_refused : (number detail : ℕ) → says_scl r ≡ refuses number detail → (left ≡ l) × (es ≡ old)
  build_entries_refused number detail a = go (built_in b t l (length old)) refl
    where
      go : (s : Said (List Entry)) → built_in b t l (length old) ≡ s → (left ≡ l) × (es ≡ old)
      go (gives x) q = no_value (sym a ∙ c.0 ∙ ap (counted b) q)
      go (refuses n d) q = (c.1 ∙ ap (λ (s : Said (List Entry)). after_list s l) q, same_entries es old (c.2 ∙ ap (λ (s : Said (List Entry)). after_entries s (as_entries old)) q))

-- ---- a read
module _ (text : List ℕ) (t : ItemTable) (l : ListTable) (old : List SortedEntry) (r : (Result SclRead Refusal)) (items : ItemTable) (left : ListTable) (es : List SortedEntry) (c : ReadEntries text t l old r items left es) where
  -- ACCEPTED: the same, and the column call reads the same into the same tables
  pub read_entries_accepted : (x : SclRead) → outcome r ≡ gives x
      → SameList x.scl.count left es × (drop (x.scl.count + 1) es ≡ drop (x.scl.count + 1) old) × (read_of (room_of t l) text ≡ gives x) × (items ≡ after_items text t l) × (left ≡ after_sorted text t l)
  read_entries_accepted x a =
      let h : Holds (gives x.scl.count) left (length old) (sorted_read text (read_in text t l (length old))) = subst (λ (s : Said SclRead). Holds (count_read s) left (length old) (sorted_read text (read_in text t l (length old)))) a (called text t l (length old) c.0 c.1 c.2).3 in
      let q : read_in text t l (length old) ≡ gives x = sym c.0 ∙ a in
      let k = more_room text (min (room_of t l) (length old)) (room_of t l) x (omega arith) q in
      let z : read_in text t l (length old) ≡ read_of (room_of t l) text = q ∙ sym k in
      (same_list old es h c.3, same_rest old es h c.3, k, c.1 ∙ ap (λ (s : Said SclRead). items_after s text t) z, c.2 ∙ ap (λ (s : Said SclRead). sorted_after s text l) z)

  -- REFUSED: items, columns and list are as they were
  pub read_entries_refused : (number detail : ℕ) → outcome r ≡ refuses number detail → (items ≡ t) × (left ≡ l) × (es ≡ old)
  read_entries_refused number detail a =
      let q : read_in text t l (length old) ≡ refuses number detail = sym c.0 ∙ a in
      (c.1 ∙ ap (λ (s : Said SclRead). items_after s text t) q, c.2 ∙ ap (λ (s : Said SclRead). sorted_after s text l) q, same_entries es old (c.3 ∙ ap (λ (s : Said SclRead). after_entries (sorted_read text s) (as_entries old)) q))

-- ---- each call has one result
entries_one : (es : List Entry) → One as_entries es
entries_one es xs ys a b = same_entries xs ys (a ∙ sym b)

-- the answer, the columns, and the list
pub build_entries_one : (b : SclBuilder) (t : ItemTable) (l : ListTable) (places : ℕ) (old : List Entry)
    → One says_scl (counted b (built_in b t l places)) × One (λ r. r) (after_list (built_in b t l places) l) × One as_entries (after_entries (built_in b t l places) old)
build_entries_one b t l places old = (scl_one (counted b (built_in b t l places)), one_result (after_list (built_in b t l places) l), entries_one (after_entries (built_in b t l places) old))

pub read_entries_one : (text : List ℕ) (t : ItemTable) (l : ListTable) (places : ℕ) (old : List Entry)
    → One outcome (read_in text t l places) × One (λ r. r) (items_after (read_in text t l places) text t) × One (λ r. r) (sorted_after (read_in text t l places) text l) × One as_entries (after_entries (sorted_read text (read_in text t l places)) old)
read_entries_one text t l places old = (
  one_said (read_in text t l places),
  one_result (items_after (read_in text t l places) text t),
  one_result (sorted_after (read_in text t l places) text l),
  entries_one (after_entries (sorted_read text (read_in text t l places)) old),
)
