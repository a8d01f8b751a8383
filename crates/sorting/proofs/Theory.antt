-- Under a strict total order the insertion sort of a list does not see its order; a heap's root is its last. Assumes nothing.
use mathlib.Core.Path.{◌≡◌, refl, sym, ◌∙◌, ap, subst}
use mathlib.Core.Logic.{◌⊎◌, inl, inr, ◌≢◌}
use mathlib.Core.Bool.{Bool, false}
use Prim.Native.Nat.{ℕ, zero, suc, ◌+◌, ◌-◌, ◌*◌, ◌/◌, ◌≤◌, ◌<◌}
use native.Mathlib.Nat.{eq-or-lt_of_le, le_of_suc-le-suc, not-suc-le-zero}
use native.Mathlib.Omega.{arith}
use mathlib.Core.List.{List, [], ◌∷◌, ◌++◌}
use lib.Dec.{ltb}
use lib.ListN.{length, take, drop, get_or, set, length-set}
use lib.Seq.{get_or-take, drop-set-lt, take-set-lt, get_or-set_same, get_or-set_other}
use borrow.Author.Tests.{lt-ltb}
use Rattle.sorting.specs.Order.{insert_by, sort_by}
use Rattle.sorting.specs.Heap.{later_of, top_of, swapped, Heap}
use Rattle.base.proofs.Integers.{bool_cases}
use Rattle.sorting.proofs.Order.{Strict, irrefl, ge_trans}

-- two numbers are equal or not
pub same? : (i j : ℕ) → (i ≡ j) ⊎ (i ≢ j)
same? zero zero = inl refl
same? zero (suc j) = inr (λ e. omega arith)
same? (suc i) zero = inr (λ e. omega arith)
same? (suc i) (suc j) = elim (same? i j) [ inl e ↦ inl (ap suc e) | inr n ↦ inr (λ e. n (omega arith)) ]

module _ {b : ℕ → ℕ → Bool} (o : Strict b) where
  -- ---- the sort does not see the order of a list
  module _ (x y z : ℕ) (s : List ℕ) (ih : insert_by b x (insert_by b y s) ≡ insert_by b y (insert_by b x s)) where
    comm_step : insert_by b x (insert_by b y (z ∷ s)) ≡ insert_by b y (insert_by b x (z ∷ s))
    comm_step = elim (bool_cases (b z y)) [
      | inl zy ↦ elim (bool_cases (b z x)) [
        | inl zx ↦ simp (zy, zx) (ap (λ (l : List ℕ). z ∷ l) ih)
        | inr zx ↦ simp (zy, zx, o.lel z x y zx zy)
      ]
      | inr zy ↦ elim (bool_cases (b z x)) [
        | inl zx ↦ simp (zy, zx, o.lel z y x zy zx)
        | inr zx ↦ elim (bool_cases (b y x)) [
          | inl yx ↦ simp (zy, zx, yx, o.asym x y yx)
          | inr yx ↦ elim (bool_cases (b x y)) [
            | inl xy ↦ simp (zy, zx, yx, xy)
            | inr xy ↦ subst (λ (t : ℕ). insert_by b x (insert_by b t (z ∷ s)) ≡ insert_by b t (insert_by b x (z ∷ s))) (o.total x y xy yx) refl
          ]
        ]
      ]
    ]

  pub insert_comm : (x y : ℕ) (s : List ℕ) → insert_by b x (insert_by b y s) ≡ insert_by b y (insert_by b x s)
  insert_comm x y [] = elim (bool_cases (b y x)) [
    | inl yx ↦ simp (yx, o.asym x y yx)
    | inr yx ↦ elim (bool_cases (b x y)) [ inl xy ↦ simp (yx, xy) | inr xy ↦ rw (o.total x y xy yx) ]
  ]
  insert_comm x y (z ∷ s) = comm_step x y z s (insert_comm x y s)

  -- x for what stands at j, which goes in front
  pull : (t : List ℕ) (j x : ℕ) → j < length t → insert_by b (get_or t j 0) (sort_by b (set t j x)) ≡ insert_by b x (sort_by b t)
  pull [] j x h = absurd (not-suc-le-zero h)
  pull (y ∷ t) zero x h = insert_comm y x (sort_by b t)
  pull (y ∷ t) (suc j) x h =
      insert_comm (get_or t j 0) y (sort_by b (set t j x))
      ∙ ap (insert_by b y) (pull t j x (le_of_suc-le-suc h))
      ∙ insert_comm y x (sort_by b t)

  pub sort_swap : (l : List ℕ) (i j : ℕ) → i < j → j < length l → sort_by b (swapped 0 l i j) ≡ sort_by b l
  sort_swap [] i j h k = absurd (not-suc-le-zero k)
  sort_swap (x ∷ l) i zero h k = absurd (not-suc-le-zero h)
  sort_swap (x ∷ l) zero (suc j) h k = pull l j x (le_of_suc-le-suc k)
  sort_swap (x ∷ l) (suc i) (suc j) h k = ap (insert_by b x) (sort_swap l i j (le_of_suc-le-suc h) (le_of_suc-le-suc k))

  -- ---- what is after all others stands last
  insert_last : (x m : ℕ) (s : List ℕ) → b m x ≡ false → insert_by b x (s ++ (m ∷ [])) ≡ insert_by b x s ++ (m ∷ [])
  insert_last x m [] h = simp h
  insert_last x m (y ∷ s) h = elim (bool_cases (b y x)) [ inl e ↦ simp e (ap (λ (l : List ℕ). y ∷ l) (insert_last x m s h)) | inr e ↦ simp e ]

  pub sort_last : (m : ℕ) (s : List ℕ) → ((i : ℕ) → i < length s → b m (get_or s i 0) ≡ false) → sort_by b (s ++ (m ∷ [])) ≡ sort_by b s ++ (m ∷ [])
  sort_last m [] h = refl
  sort_last m (x ∷ s) h =
      ap (insert_by b x) (sort_last m s (λ i k. h (suc i) (Prim.Native.Nat.suc-le-suc k)))
      ∙ insert_last x m (sort_by b s) (h 0 (omega arith))

  -- ---- the heap's root
  root_by : (n k : ℕ) (l : List ℕ) → Heap b 0 k l → (j : ℕ) → j ≤ n → j < k → b (get_or l 0 0) (get_or l j 0) ≡ false
  root_by zero k l v j h k' = let e : j ≡ 0 = omega arith in rw e (irrefl o (get_or l 0 0))
  root_by (suc n) k l v j h k' = elim (eq-or-lt_of_le h) [
    | inl e ↦
        ge_trans o (get_or l 0 0) (get_or l (n / 2) 0) (get_or l j 0) (root_by n k l v (n / 2) (omega arith) (omega (arith, e)))
        (v.child (n / 2) j (omega arith) (omega (arith, e)) (omega (arith, e)) k')
    | inr q ↦ root_by n k l v j (le_of_suc-le-suc q) k'
  ]

  pub root : (k : ℕ) (l : List ℕ) → Heap b 0 k l → (j : ℕ) → j < k → b (get_or l 0 0) (get_or l j 0) ≡ false
  root k l v j h = root_by j k l v j (omega arith) h

-- ---- reads after an exchange
module _ {A : Type 0} (d : A) (l : List A) (i j : ℕ) (h : i < j) (k : j < length l) where
  pub swapped_left : get_or (swapped d l i j) i d ≡ get_or l j d
  swapped_left = get_or-set_other (set l i (get_or l j d)) j i (get_or l i d) d (λ e. omega arith) ∙ get_or-set_same l i (get_or l j d) d (omega arith)

  pub swapped_right : get_or (swapped d l i j) j d ≡ get_or l i d
  swapped_right = get_or-set_same (set l i (get_or l j d)) j (get_or l i d) d (omega (arith, length-set l i (get_or l j d)))

  pub swapped_other : (m : ℕ) → m ≢ i → m ≢ j → get_or (swapped d l i j) m d ≡ get_or l m d
  swapped_other m ni nj = get_or-set_other (set l i (get_or l j d)) j m (get_or l i d) d nj ∙ get_or-set_other l i m (get_or l j d) d ni

pub length_swapped : {A : Type 0} (d : A) (l : List A) (i j : ℕ) → length (swapped d l i j) ≡ length l
length_swapped d l i j = length-set (set l i (get_or l j d)) j (get_or l i d) ∙ length-set l i (get_or l j d)

pub take_swapped : (l : List ℕ) (k i j : ℕ) → i < k → j < k → take k (swapped 0 l i j) ≡ swapped 0 (take k l) i j
take_swapped l k i j h h' = rw (take-set-lt k (set l i (get_or l j 0)) j (get_or l i 0) h', take-set-lt k l i (get_or l j 0) h, get_or-take k l i 0 h, get_or-take k l j 0 h')

pub drop_swapped : (l : List ℕ) (k i j : ℕ) → i < k → j < k → drop k (swapped 0 l i j) ≡ drop k l
drop_swapped l k i j h h' = drop-set-lt k (set l i (get_or l j 0)) j (get_or l i 0) h' ∙ drop-set-lt k l i (get_or l j 0) h

-- ---- a sift: the heap holds but at i, and what stands above i is not before what stands below it
pub record Sifting (b : ℕ → ℕ → Bool) (s k i : ℕ) (l : List ℕ) : Type 0 where
  pub from : s ≤ i
  pub below : (p j : ℕ) → s ≤ p → p ≢ i → 2 * p + 1 ≤ j → j ≤ 2 * p + 2 → j < k → b (get_or l p 0) (get_or l j 0) ≡ false
  pub over : (p j : ℕ) → s ≤ p → 2 * p + 1 ≤ i → i ≤ 2 * p + 2 → 2 * i + 1 ≤ j → j ≤ 2 * i + 2 → j < k → b (get_or l p 0) (get_or l j 0) ≡ false

pub sift_starts : {b : ℕ → ℕ → Bool} {s k : ℕ} {l : List ℕ} → Heap b (suc s) k l → Sifting b s k s l
sift_starts {b} {s} {k} {l} v = record {
  from = omega arith;
  below = λ p j h n a c e. v.child p j (elim (eq-or-lt_of_le h) [ inl q ↦ absurd (n (sym q)) | inr q ↦ q ]) a c e;
  over = λ p j h a c d e f. absurd (omega arith);
}

pub sift_ends : {b : ℕ → ℕ → Bool} {s k i : ℕ} {l : List ℕ} → Sifting b s k i l → ((j : ℕ) → 2 * i + 1 ≤ j → j ≤ 2 * i + 2 → j < k → b (get_or l i 0) (get_or l j 0) ≡ false) → Heap b s k l
sift_ends {b} {s} {k} {i} {l} v h = record {
  child = λ p j sp a c e. elim (same? p i) [
    | inl q ↦ rw q (h j (omega (arith, q)) (omega (arith, q)) e)
    | inr q ↦ v.below p j sp q a c e
  ];
}

module _ {b : ℕ → ℕ → Bool} {s k i : ℕ} {l : List ℕ} (v : Sifting b s k i l) (c : ℕ) (lo : 2 * i + 1 ≤ c) (hi : c ≤ 2 * i + 2) (ck : c < k) (kl : k ≤ length l)
    (self : b (get_or l c 0) (get_or l i 0) ≡ false) (kids : (j : ℕ) → 2 * i + 1 ≤ j → j ≤ 2 * i + 2 → j < k → b (get_or l c 0) (get_or l j 0) ≡ false) where
  left : get_or (swapped 0 l i c) i 0 ≡ get_or l c 0
  left = swapped_left 0 l i c (omega arith) (omega arith)

  right : get_or (swapped 0 l i c) c 0 ≡ get_or l i 0
  right = swapped_right 0 l i c (omega arith) (omega arith)

  other : (m : ℕ) → m ≢ i → m ≢ c → get_or (swapped 0 l i c) m 0 ≡ get_or l m 0
  other = swapped_other 0 l i c (omega arith) (omega arith)

  at_i : (j : ℕ) → 2 * i + 1 ≤ j → j ≤ 2 * i + 2 → j < k → b (get_or (swapped 0 l i c) i 0) (get_or (swapped 0 l i c) j 0) ≡ false
  at_i j a e f = elim (same? j c) [
    | inl q ↦ rw (q, left, right) self
    | inr q ↦ rw (left, other j (λ z. omega arith) q) (kids j a e f)
  ]

  at_other : (p j : ℕ) → s ≤ p → p ≢ c → p ≢ i → 2 * p + 1 ≤ j → j ≤ 2 * p + 2 → j < k → b (get_or (swapped 0 l i c) p 0) (get_or (swapped 0 l i c) j 0) ≡ false
  at_other p j sp pc pi a e f = elim (same? j i) [
    | inl q ↦ rw (q, left, other p pi pc) (v.over p c sp (omega (arith, q)) (omega (arith, q)) lo hi ck)
    | inr q ↦ rw (other p pi pc, other j q (λ z. pi (omega arith))) (v.below p j sp pi a e f)
  ]

  pub sift_turn : Sifting b s k c (swapped 0 l i c)
  sift_turn = record {
    from = omega (arith, v.from);
    below = λ p j sp pc a e f. elim (same? p i) [
      | inl q ↦ subst (λ (m : ℕ). b (get_or (swapped 0 l i c) m 0) (get_or (swapped 0 l i c) j 0) ≡ false) (sym q) (at_i j (omega (arith, q)) (omega (arith, q)) f)
      | inr q ↦ at_other p j sp pc q a e f
    ];
    over = λ p j sp a e g h f.
        let q : p ≡ i = omega arith in
        rw (q, left, other j (λ z. omega arith) (λ z. omega arith)) (v.below c j (omega (arith, v.from)) (λ z. omega arith) g h f);
  }

-- ---- the last one of an entry and its children
module _ {b : ℕ → ℕ → Bool} (o : Strict b) (l : List ℕ) where
  abbrev pub at : ℕ → ℕ → Bool
  at x y = b (get_or l x 0) (get_or l y 0)

  pub later_self : (c j k : ℕ) → at (later_of at c j k) c ≡ false
  unfolding later_of
  later_self c j k = elim (bool_cases (ltb j k)) [
    | inl h ↦ elim (bool_cases (at c j)) [ inl e ↦ simp (h, e) (o.asym (get_or l j 0) (get_or l c 0) e) | inr e ↦ simp (h, e) (irrefl o (get_or l c 0)) ]
    | inr h ↦ simp h (irrefl o (get_or l c 0))
  ]

  pub later_other : (c j k : ℕ) → j < k → at (later_of at c j k) j ≡ false
  unfolding later_of
  later_other c j k h = elim (bool_cases (at c j)) [ inl e ↦ simp (lt-ltb j k h, e) (irrefl o (get_or l j 0)) | inr e ↦ simp (lt-ltb j k h, e) ]

pub later_is : (e : ℕ → ℕ → Bool) (c j k : ℕ) → (later_of e c j k ≡ c) ⊎ ((later_of e c j k ≡ j) × (j < k))
unfolding later_of
later_is e c j k = elim (bool_cases (ltb j k)) [
  | inl h ↦ elim (bool_cases (e c j)) [ inl q ↦ inr (simp (h, q), borrow.Author.Tests.ltb-true j k h) | inr q ↦ inl (simp (h, q)) ]
  | inr h ↦ inl (simp h)
]

-- two orders that agree below k choose alike
pub later_same : (e e' : ℕ → ℕ → Bool) (c j k : ℕ) → (j < k → e c j ≡ e' c j) → later_of e c j k ≡ later_of e' c j k
unfolding later_of
later_same e e' c j k h = elim (bool_cases (ltb j k)) [
  | inl q ↦ simp (q, h (borrow.Author.Tests.ltb-true j k q))
  | inr q ↦ simp q
]

pub later_below : (e : ℕ → ℕ → Bool) (c j k : ℕ) → c < k → later_of e c j k < k
later_below e c j k h = elim (later_is e c j k) [ inl q ↦ rw q h | inr q ↦ rw q.0 q.1 ]

pub top_below : (e : ℕ → ℕ → Bool) (i k : ℕ) → i < k → top_of e i k < k
top_below e i k h = later_below e (later_of e i (2 * i + 1) k) (2 * i + 2) k (later_below e i (2 * i + 1) k h)

pub top_child : (e : ℕ → ℕ → Bool) (i k : ℕ) → top_of e i k ≢ i → (2 * i + 1 ≤ top_of e i k) × (top_of e i k ≤ 2 * i + 2)
top_child e i k n = elim (later_is e (later_of e i (2 * i + 1) k) (2 * i + 2) k) [
  | inl q ↦ elim (later_is e i (2 * i + 1) k) [
    | inl r ↦ absurd (n (q ∙ r))
    | inr r ↦ (omega (arith, q, r.0), omega (arith, q, r.0))
  ]
  | inr q ↦ (omega (arith, q.0), omega (arith, q.0))
]

module _ {b : ℕ → ℕ → Bool} (o : Strict b) (l : List ℕ) (i k : ℕ) where
  abbrev first : ℕ
  first = later_of (at o l) i (2 * i + 1) k

  pub top_self : at o l (top_of (at o l) i k) i ≡ false
  top_self = ge_trans o _ (get_or l first 0) _ (later_self o l first (2 * i + 2) k) (later_self o l i (2 * i + 1) k)

  pub top_kids : (j : ℕ) → 2 * i + 1 ≤ j → j ≤ 2 * i + 2 → j < k → at o l (top_of (at o l) i k) j ≡ false
  top_kids j a c h = elim (eq-or-lt_of_le a) [
    | inl q ↦
        let left : at o l (top_of (at o l) i k) (2 * i + 1) ≡ false =
        ge_trans o _ (get_or l first 0) _ (later_self o l first (2 * i + 2) k) (later_other o l i (2 * i + 1) k (omega arith)) in
        rw (← q) left
    | inr q ↦ let e : j ≡ 2 * i + 2 = omega arith in rw e (later_other o l first (2 * i + 2) k (omega arith))
  ]
