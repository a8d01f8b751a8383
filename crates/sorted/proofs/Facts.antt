-- What order and the repeat rule leave: ratios that never fall, as many entries, each of them one that was there. Assumes nothing.
use mathlib.Core.Path.{◌≡◌, refl, ◌∙◌, ap}
use mathlib.Core.Logic.{inl, inr}
use Prim.Native.Nat.{suc}
use mathlib.Core.List.{List, [], ◌∷◌, map}
use lib.ListN.{length}
use Rattle.sorting.specs.Entries.{Entry}
use Rattle.sorting.specs.Order.{lower, insert_by, sort_by}
use Rattle.sorted.specs.Repeats.{near, keep_from, keep}
use Rattle.sorting.specs.Stable.{NeverFalls}
use Rattle.base.proofs.Integers.{bool_cases}
use Rattle.sorting.proofs.Stable.{Good, Over, Rises, over_self, sort_rises, never_falls}
use Rattle.sorting.proofs.Work.{All, all_insert}

pub all_keep : (q : Entry → Type 0) (p : Entry) (s : List Entry) → q p → All q s → All q (keep_from p s)
all_keep q p [] h a = a
all_keep q p (x ∷ s) h a = elim (bool_cases (near x.ratio p.ratio)) [
  | inl e ↦ simp e (h, all_keep q p s h a.1)
  | inr e ↦ simp e (a.0, all_keep q x s a.0 a.1)
]

keep_from_rises : (p : Entry) (s : List Entry) → Good p → All (Over p) s → Rises s → Rises (keep_from p s)
keep_from_rises p [] g h a = a
keep_from_rises p (x ∷ s) g h a = elim (bool_cases (near x.ratio p.ratio)) [
  | inl e ↦ simp e (g, all_keep (Over p) p s (over_self p g) h.1, keep_from_rises p s g h.1 a.2)
  | inr e ↦ simp e (a.0, all_keep (Over x) x s (over_self x a.0) a.1, keep_from_rises x s a.0 a.1 a.2)
]

pub keep_rises : (s : List Entry) → Rises s → Rises (keep s)
keep_rises [] a = a
keep_rises (x ∷ s) a = keep_from_rises x (x ∷ s) a.0 (over_self x a.0, a.1) a

-- ---- what sorting and the repeat rule leave
length_insert : (x : Entry) (s : List Entry) → length (insert_by lower x s) ≡ suc (length s)
length_insert x [] = refl
length_insert x (y ∷ s) = elim (bool_cases (lower y x)) [ inl e ↦ simp e (ap suc (length_insert x s)) | inr e ↦ simp e ]

length_sort : (s : List Entry) → length (sort_by lower s) ≡ length s
length_sort [] = refl
length_sort (x ∷ s) = length_insert x (sort_by lower s) ∙ ap suc (length_sort s)

length_keep_from : (p : Entry) (s : List Entry) → length (keep_from p s) ≡ length s
length_keep_from p [] = refl
length_keep_from p (x ∷ s) = elim (bool_cases (near x.ratio p.ratio)) [ inl e ↦ simp e (ap suc (length_keep_from p s)) | inr e ↦ simp e (ap suc (length_keep_from x s)) ]

length_keep : (s : List Entry) → length (keep s) ≡ length s
length_keep [] = refl
length_keep (x ∷ s) = length_keep_from x (x ∷ s)

-- as many entries, each of them one of those that were there
pub arranged_length : (s : List Entry) → length (keep (sort_by lower s)) ≡ length s
arranged_length s = length_keep (sort_by lower s) ∙ length_sort s

all_sort : (q : Entry → Type 0) (s : List Entry) → All q s → All q (sort_by lower s)
all_sort q [] a = a
all_sort q (x ∷ s) a = all_insert q lower x (sort_by lower s) a.0 (all_sort q s a.1)

keep_all : (q : Entry → Type 0) (s : List Entry) → All q s → All q (keep s)
keep_all q [] a = a
keep_all q (x ∷ s) a = all_keep q x (x ∷ s) a.0 a

pub arranged_all : (q : Entry → Type 0) (s : List Entry) → All q s → All q (keep (sort_by lower s))
arranged_all q s a = keep_all q (sort_by lower s) (all_sort q s a)

pub arranged_falls : (s : List Entry) → All Good s → NeverFalls (map (λ (e : Entry). e.ratio) (keep (sort_by lower s)))
arranged_falls s a = never_falls (keep (sort_by lower s)) (keep_rises (sort_by lower s) (sort_rises s a))
