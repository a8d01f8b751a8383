-- The sort's two loops over the three columns, and its order as the stable one by ratio. Assumes nothing.
use mathlib.Core.Path.{◌≡◌, refl, sym, ◌∙◌, ap, subst}
use mathlib.Core.Logic.{inl, inr}
use mathlib.Core.Bool.{Bool, false}
use Prim.Native.Nat.{ℕ, suc, ◌+◌, ◌-◌, ◌*◌, ◌≤◌, ◌<◌, suc-le-suc}
use native.Mathlib.Omega.{arith}
use mathlib.Core.List.{List, [], ◌∷◌, ◌++◌, map, append-nil}
use lib.Dec.{T, eqb}
use lib.IntN.{ℤ, pos}
use lib.ListN.{length, take, drop, get_or, length-map, take-append-drop, drop_of_length-le}
use lib.Seq.{take-suc, drop-cons, append_snoc, get_or-take, length-take-le, take_all}
use lib.Ieee.{Float, nan, fin, lt}
use lib.Ieee.Positive.{positive}
use borrow.Author.Tests.{le-ltb, eqb-true, eq-eqb, ne_eqb}
use Rattle.base.specs.Said.{pick}
use Rattle.sorting.specs.Entries.{Entry, zip, Columns}
use Rattle.sorting.specs.Order.{lower, insert_by, sort_by}
use Rattle.sorting.specs.Asked.{AllPositive, Ascending}
use Rattle.sorting.specs.Heap.{comes, less, swapped, Heap, Sifts}
use Rattle.base.proofs.Integers.{bool_cases}
use Rattle.sorting.proofs.Order.{strict}
use Rattle.sorting.proofs.Theory.{same?, sort_swap, sort_last, root, swapped_left, swapped_right, swapped_other, length_swapped, take_swapped, drop_swapped}
use Rattle.sorting.proofs.Sift.{map_swapped}
use Rattle.sorting.proofs.Columns.{map_map, map_same, columns_zip}

-- the first k entries are still to be sorted, and are a heap from s on
pub record Work (f : ℕ → Float) (g : ℕ → ℤ) (l₀ : List ℕ) (s k : ℕ) (ps : List ℕ) (rs : List Float) (ws : List ℤ) : Type 0 where
  pub ratios : rs ≡ map f ps
  pub wraps : ws ≡ map g ps
  pub same : length ps ≡ length l₀
  pub end : k ≤ length ps
  pub sorts : sort_by (less f) (take k ps) ++ drop k ps ≡ sort_by (less f) l₀
  pub heap : Heap (less f) s k ps

module _ {f : ℕ → Float} {g : ℕ → ℤ} {l₀ : List ℕ} (pf : (p : ℕ) → T (positive (f p))) where
  pub work_sift : {s k : ℕ} {ps ps' : List ℕ} {rs rs' : List Float} {ws ws' : List ℤ} → Work f g l₀ (suc s) k ps rs ws → Sifts s k ps rs ws ps' rs' ws' → Work f g l₀ s k ps' rs' ws'
  work_sift w v =
      let z = v.law f g pf w.ratios w.wraps w.heap in record {
        ratios = z.ratios;
        wraps = z.wraps;
        same = z.same ∙ w.same;
        end = omega (arith, w.end, z.same);
        sorts = rw (z.first, z.rest) w.sorts;
        heap = z.heap;
      }

  module _ {ps : List ℕ} {rs : List Float} {ws : List ℤ} (m : ℕ) (h : 0 < m) (w : Work f g l₀ 0 (suc m) ps rs ws) where
    abbrev new : List ℕ
    new = swapped 0 ps 0 m

    ml : m < length ps
    ml = omega (arith, w.end)

    ml' : m < length new
    ml' = omega (arith, ml, length_swapped 0 ps 0 m)

    last : get_or new m 0 ≡ get_or ps 0 0
    last = swapped_right 0 ps 0 m h ml

    largest : (i : ℕ) → i < m → less f (get_or new m 0) (get_or new i 0) ≡ false
    largest i k = elim (same? i 0) [
      | inl q ↦ rw (q, last, swapped_left 0 ps 0 m h ml) (root (strict f pf) (suc m) ps w.heap m (omega arith))
      | inr q ↦ rw (last, swapped_other 0 ps 0 m h ml i q (λ z. omega arith)) (root (strict f pf) (suc m) ps w.heap i (omega arith))
    ]

    taken : sort_by (less f) (take (suc m) ps) ≡ sort_by (less f) (take m new) ++ (get_or new m 0 ∷ [])
    taken =
        sym (sort_swap (strict f pf) (take (suc m) ps) 0 m h (omega (arith, length-take-le (suc m) ps w.end)))
        ∙ ap (sort_by (less f)) (sym (take_swapped ps (suc m) 0 m (omega arith) (omega arith)) ∙ take-suc new m 0 ml')
        ∙ sort_last (strict f pf) (get_or new m 0) (take m new)
        (λ i k. let im : i < m = omega (arith, k, length-take-le m new (omega (arith, ml'))) in rw (get_or-take m new i 0 im) (largest i im))

    pub work_take : Work f g l₀ 1 m new (swapped nan rs 0 m) (swapped (pos 0) ws 0 m)
    work_take = record {
      ratios = rw w.ratios (map_swapped f nan ps 0 m (omega (arith, ml)) ml);
      wraps = rw w.wraps (map_swapped g (pos 0) ps 0 m (omega (arith, ml)) ml);
      same = length_swapped 0 ps 0 m ∙ w.same;
      end = omega (arith, ml');
      sorts =
          ap (λ (t : List ℕ). sort_by (less f) (take m new) ++ t) (drop-cons new m 0 ml')
          ∙ sym (append_snoc (sort_by (less f) (take m new)) (get_or new m 0) (drop (suc m) new))
          ∙ ap (λ (t : List ℕ). t ++ drop (suc m) new) (sym taken)
          ∙ ap (λ (t : List ℕ). sort_by (less f) (take (suc m) ps) ++ t) (drop_swapped ps (suc m) 0 m (omega arith) (omega arith))
          ∙ w.sorts;
      heap = record {
        child = λ i j a b c d.
            rw (swapped_other 0 ps 0 m h ml i (λ z. omega arith) (λ z. omega arith), swapped_other 0 ps 0 m h ml j (λ z. omega arith) (λ z. omega arith))
            (w.heap.child i j (omega arith) b c (omega arith));
      };
    }

small : (b : ℕ → ℕ → Bool) (l : List ℕ) → length l ≤ 1 → sort_by b l ≡ l
small b [] h = refl
small b (x ∷ []) h = refl
small b (x ∷ y ∷ l) h = absurd (omega arith)

pub work_done : {f : ℕ → Float} {g : ℕ → ℤ} {l₀ : List ℕ} {k : ℕ} {ps : List ℕ} {rs : List Float} {ws : List ℤ} → Work f g l₀ 0 k ps rs ws → k ≤ 1 → ps ≡ sort_by (less f) l₀
work_done {f} {g} {l₀} {k} {ps} w h =
    sym (take-append-drop k ps)
    ∙ ap (λ (t : List ℕ). t ++ drop k ps) (sym (small (less f) (take k ps) (omega (arith, h, length-take-le k ps w.end))))
    ∙ w.sorts

-- ---- what holds of each
abbrev pub All : {A : Type 0} → (A → Type 0) → List A → Type 0
All q [] = Unit {0}
All q (x ∷ s) = q x × All q s

pub all_insert : {A : Type 0} (q : A → Type 0) (b : A → A → Bool) (x : A) (s : List A) → q x → All q s → All q (insert_by b x s)
all_insert q b x [] h a = (h, a)
all_insert q b x (y ∷ s) h a = elim (bool_cases (b y x)) [ inl e ↦ simp e (a.0, all_insert q b x s h a.1) | inr e ↦ simp e (h, a) ]

all_sort : (q : ℕ → Type 0) (b : ℕ → ℕ → Bool) (s : List ℕ) → All q s → All q (sort_by b s)
all_sort q b [] a = a
all_sort q b (x ∷ s) a = all_insert q b x (sort_by b s) a.0 (all_sort q b s a.1)

-- ---- the order by ratio and place, of places that rise, is the stable one by ratio
abbrev Rising : List ℕ → Type 0
Rising [] = Unit {0}
Rising (x ∷ s) = All (λ (y : ℕ). x < y) s × Rising s

all_above : (x : ℕ) (s : List ℕ) → ((j : ℕ) → j < length s → x < get_or s j 0) → All (λ (y : ℕ). x < y) s
all_above x [] h = tt
all_above x (y ∷ s) h = (h 0 (omega arith), all_above x s (λ j k. h (suc j) (suc-le-suc k)))

rising : (ps : List ℕ) → Ascending ps → Rising ps
rising [] h = tt
rising (p ∷ ps) h = (all_above p ps (λ j k. h 0 (suc j) (omega arith) (suc-le-suc k)), rising ps (λ i j k l. h (suc i) (suc j) (suc-le-suc k) (suc-le-suc l)))

module _ (f : ℕ → Float) where
  abbrev by : ℕ → ℕ → Bool
  by p q = lt (f p) (f q)

  less_by : (x y : ℕ) → x < y → less f y x ≡ by y x
  unfolding less comes
  less_by x y h = elim (bool_cases (lt (f y) (f x))) [
    | inl e ↦ simp e
    | inr e ↦ elim (bool_cases (lt (f x) (f y))) [ inl k ↦ simp (e, k) | inr k ↦ simp (e, k, le-ltb y x (omega arith)) ]
  ]

  insert_stable : (x : ℕ) (s : List ℕ) → All (λ (y : ℕ). x < y) s → insert_by (less f) x s ≡ insert_by by x s
  insert_stable x [] a = refl
  insert_stable x (y ∷ s) a = rw (less_by x y a.0, insert_stable x s a.1)

  stable : (ps : List ℕ) → Rising ps → sort_by (less f) ps ≡ sort_by by ps
  stable [] a = refl
  stable (p ∷ ps) a =
      insert_stable p (sort_by (less f) ps) (all_sort (λ (y : ℕ). p < y) (less f) ps a.0) ∙ ap (insert_by by p) (stable ps a.1)

-- ---- an order of places is the order of what stands at them
module _ {A : Type 0} (h : ℕ → A) (c : A → A → Bool) where
  insert_map : (x : ℕ) (s : List ℕ) → map h (insert_by (λ (p q : ℕ). c (h p) (h q)) x s) ≡ insert_by c (h x) (map h s)
  insert_map x [] = refl
  insert_map x (y ∷ s) = elim (bool_cases (c (h y) (h x))) [
    | inl e ↦ simp e (ap (λ (l : List A). h y ∷ l) (insert_map x s))
    | inr e ↦ simp e
  ]

  pub sort_map : (s : List ℕ) → map h (sort_by (λ (p q : ℕ). c (h p) (h q)) s) ≡ sort_by c (map h s)
  sort_map [] = refl
  sort_map (x ∷ s) = insert_map x (sort_by (λ (p q : ℕ). c (h p) (h q)) s) ∙ ap (insert_by c (h x)) (sort_map s)

-- ---- the entry of a place
abbrev pub entry_of : List Entry → ℕ → Entry
entry_of [] p = record { place = p; ratio = fin false 1 (pos 0); wraps = pos 0 }
entry_of (e ∷ es) p = pick (eqb p e.place) e (entry_of es p)

pub place_of : (es : List Entry) (p : ℕ) → (entry_of es p).place ≡ p
place_of [] p = refl
place_of (e ∷ es) p = elim (bool_cases (eqb p e.place)) [ inl h ↦ simp h (sym (eqb-true p e.place h)) | inr h ↦ simp h (place_of es p) ]

skip : (e : Entry) (es : List Entry) (s : List ℕ) → All (λ (y : ℕ). e.place < y) s → map (entry_of (e ∷ es)) s ≡ map (entry_of es) s
skip e es [] a = refl
skip e es (y ∷ s) a = rw (ne_eqb y e.place (λ q. omega (arith, a.0)), skip e es s a.1)

-- entries whose places rise are found by their places
look : (es : List Entry) → Rising (map (λ (e : Entry). e.place) es) → es ≡ map (entry_of es) (map (λ (e : Entry). e.place) es)
look [] a = refl
look (e ∷ es) a = rw (eq-eqb e.place e.place refl, skip e es (map (λ (x : Entry). x.place) es) a.0) (ap (λ (l : List Entry). e ∷ l) (look es a.1))

positive_of : (ps : List ℕ) (rs : List Float) (ws : List ℤ) → AllPositive rs → (p : ℕ) → T (positive (entry_of (zip ps rs ws) p).ratio)
positive_of [] rs ws a p = tt
positive_of (q ∷ ps) [] ws a p = tt
positive_of (q ∷ ps) (r ∷ rs) [] a p = tt
positive_of (q ∷ ps) (r ∷ rs) (w ∷ ws) a p = elim (bool_cases (eqb p q)) [
  | inl h ↦ simp h (a 0 (omega arith))
  | inr h ↦ simp h (positive_of ps rs ws (λ i k. a (suc i) (suc-le-suc k)) p)
]

-- ---- where the sort stands
pub record Sorting (ps₀ : List ℕ) (rs₀ : List Float) (ws₀ : List ℤ) (s k : ℕ) (ps : List ℕ) (rs : List Float) (ws : List ℤ) : Type 0 where
  pub work : Work (λ (p : ℕ). (entry_of (zip ps₀ rs₀ ws₀) p).ratio) (λ (p : ℕ). (entry_of (zip ps₀ rs₀ ws₀) p).wraps) ps₀ s k ps rs ws

module _ {ps₀ : List ℕ} {rs₀ : List Float} {ws₀ : List ℤ} where
  -- the columns keep their lengths
  pub sizes : {s k : ℕ} {ps : List ℕ} {rs : List Float} {ws : List ℤ} → Sorting ps₀ rs₀ ws₀ s k ps rs ws → (length ps ≡ length ps₀) × (length rs ≡ length ps₀) × (length ws ≡ length ps₀)
  sizes {s} {k} {ps} v =
      let w = v.work in
      (w.same, ap length w.ratios ∙ length-map ps (λ (p : ℕ). (entry_of (zip ps₀ rs₀ ws₀) p).ratio) ∙ w.same, ap length w.wraps ∙ length-map ps (λ (p : ℕ). (entry_of (zip ps₀ rs₀ ws₀) p).wraps) ∙ w.same)

  -- a turn of the first loop, and of the second its exchange
  pub one_sifted : AllPositive rs₀ → {s k : ℕ} {ps ps' : List ℕ} {rs rs' : List Float} {ws ws' : List ℤ} → 0 < s → Sorting ps₀ rs₀ ws₀ s k ps rs ws → Sifts (s - 1) k ps rs ws ps' rs' ws'
      → Sorting ps₀ rs₀ ws₀ (s - 1) k ps' rs' ws'
  one_sifted a {s} {k} {ps} {ps'} {rs} {rs'} {ws} {ws'} h w v =
      let e : s ≡ suc (s - 1) = omega arith in
      let w' : Sorting ps₀ rs₀ ws₀ (suc (s - 1)) k ps rs ws = subst (λ (t : ℕ). Sorting ps₀ rs₀ ws₀ t k ps rs ws) e w in
      record { work = work_sift (positive_of ps₀ rs₀ ws₀ a) w'.work v }

  pub one_taken : AllPositive rs₀ → {k : ℕ} {ps ps' : List ℕ} {rs rs' : List Float} {ws ws' : List ℤ} → 1 < k → Sorting ps₀ rs₀ ws₀ 0 k ps rs ws
      → (ps' ≡ swapped 0 ps 0 (k - 1)) × (rs' ≡ swapped nan rs 0 (k - 1)) × (ws' ≡ swapped (pos 0) ws 0 (k - 1)) → Sorting ps₀ rs₀ ws₀ 1 (k - 1) ps' rs' ws'
  one_taken a {k} {ps} {ps'} {rs} {rs'} {ws} {ws'} h w e =
      let q : k ≡ suc (k - 1) = omega arith in
      let w' : Sorting ps₀ rs₀ ws₀ 0 (suc (k - 1)) ps rs ws = subst (λ (t : ℕ). Sorting ps₀ rs₀ ws₀ 0 t ps rs ws) q w in
      rw (e.0, e.1, e.2) (record { work = work_take (positive_of ps₀ rs₀ ws₀ a) (k - 1) (omega arith) w'.work })

module _ (ps₀ : List ℕ) (rs₀ : List Float) (ws₀ : List ℤ) (lr : length rs₀ ≡ length ps₀) (lw : length ws₀ ≡ length ps₀) (up : Ascending ps₀) where
  cols : Columns (zip ps₀ rs₀ ws₀) ps₀ rs₀ ws₀
  cols = columns_zip ps₀ rs₀ ws₀ lr lw

  looked : zip ps₀ rs₀ ws₀ ≡ map (entry_of (zip ps₀ rs₀ ws₀)) ps₀
  looked = look (zip ps₀ rs₀ ws₀) (subst Rising cols.places (rising ps₀ up)) ∙ ap (map (entry_of (zip ps₀ rs₀ ws₀))) (sym cols.places)

  pub sort_starts : (s k : ℕ) → k ≡ length ps₀ → k ≤ 2 * s + 1 → Sorting ps₀ rs₀ ws₀ s k ps₀ rs₀ ws₀
  sort_starts s k ek es = record {
    work = record {
      ratios = cols.ratios ∙ ap (map (λ (e : Entry). e.ratio)) looked ∙ map_map (λ (e : Entry). e.ratio) (entry_of (zip ps₀ rs₀ ws₀)) ps₀;
      wraps = cols.wraps ∙ ap (map (λ (e : Entry). e.wraps)) looked ∙ map_map (λ (e : Entry). e.wraps) (entry_of (zip ps₀ rs₀ ws₀)) ps₀;
      same = refl;
      end = omega (arith, ek);
      sorts = rw (take_all k ps₀ (omega (arith, ek)), drop_of_length-le ps₀ {i = k} (omega (arith, ek)), append-nil);
      heap = record { child = λ i j a b c d. absurd (omega arith) };
    };
  }

  pub sort_ends : {k : ℕ} {ps : List ℕ} {rs : List Float} {ws : List ℤ} → Sorting ps₀ rs₀ ws₀ 0 k ps rs ws → k ≤ 1 → Columns (sort_by lower (zip ps₀ rs₀ ws₀)) ps rs ws
  sort_ends {k} {ps} {rs} {ws} v h =
      let w = v.work in
      let done : ps ≡ sort_by (λ (p q : ℕ). lower (entry_of (zip ps₀ rs₀ ws₀) p) (entry_of (zip ps₀ rs₀ ws₀) q)) ps₀ =
      work_done w h ∙ stable (λ (p : ℕ). (entry_of (zip ps₀ rs₀ ws₀) p).ratio) ps₀ (rising ps₀ up) in
      let all : sort_by lower (zip ps₀ rs₀ ws₀) ≡ map (entry_of (zip ps₀ rs₀ ws₀)) ps =
      ap (sort_by lower) looked ∙ sym (sort_map (entry_of (zip ps₀ rs₀ ws₀)) lower ps₀) ∙ ap (map (entry_of (zip ps₀ rs₀ ws₀))) (sym done) in
      record {
        places = sym (ap (map (λ (e : Entry). e.place)) all ∙ map_map (λ (e : Entry). e.place) (entry_of (zip ps₀ rs₀ ws₀)) ps ∙ map_same (λ (p : ℕ). (entry_of (zip ps₀ rs₀ ws₀) p).place) (place_of (zip ps₀ rs₀ ws₀)) ps);
        ratios = w.ratios ∙ sym (ap (map (λ (e : Entry). e.ratio)) all ∙ map_map (λ (e : Entry). e.ratio) (entry_of (zip ps₀ rs₀ ws₀)) ps);
        wraps = w.wraps ∙ sym (ap (map (λ (e : Entry). e.wraps)) all ∙ map_map (λ (e : Entry). e.wraps) (entry_of (zip ps₀ rs₀ ws₀)) ps);
      }

-- what the second loop has done, whatever the first one left
pub record Drains (n : ℕ) (ps₀ : List ℕ) (rs₀ : List Float) (ws₀ : List ℤ) (k : ℕ) (ps : List ℕ) (rs : List Float) (ws : List ℤ) : Type 0 where
  pub law : (ps₁ : List ℕ) (rs₁ : List Float) (ws₁ : List ℤ) → AllPositive rs₁ → Sorting ps₁ rs₁ ws₁ 0 n ps₀ rs₀ ws₀ → Sorting ps₁ rs₁ ws₁ 0 k ps rs ws
