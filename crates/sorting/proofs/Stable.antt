-- `sort_by lower` is the stable order of entries whose ratios are finite and above zero, and the only one. Assumes nothing.
use mathlib.Core.Path.{◌≡◌, refl, sym, ◌∙◌, ap}
use mathlib.Core.Logic.{inl, inr}
use mathlib.Core.Bool.{Bool, true, false, not, ◌&&◌}
use mathlib.Core.List.{List, [], ◌∷◌, map}
use Prim.Native.Nat.{ℕ, zero, suc, ◌<◌, suc-le-suc}
use native.Mathlib.Nat.{le_of_suc-le-suc, not-suc-le-zero}
use native.Mathlib.Omega.{arith}
use lib.Dec.{T}
use lib.IntN.{ℤ}
use lib.ListN.{length, get_or}
use lib.Ieee.{Float, nan, lt}
use lib.Ieee.Positive.{positive}
use Rattle.base.specs.Said.{pick}
use Rattle.base.proofs.Integers.{bool_cases}
use Rattle.sorting.specs.Asked.{AllPositive}
use Rattle.sorting.specs.Entries.{Entry, zip}
use Rattle.sorting.specs.Order.{lower, insert_by, sort_by}
use Rattle.sorting.specs.Stable.{NeverFalls, same, likes, StableOrder}
use Rattle.sorting.proofs.Order.{clash, float_lel, float_asym}
use Rattle.sorting.proofs.Work.{All, all_insert}

-- ---- it rises
abbrev pub Good : Entry → Type 0
Good e = T (positive e.ratio)

-- y is no lower than x
abbrev pub Over : Entry → Entry → Type 0
Over x y = Good y × (lower y x ≡ false)

abbrev pub Rises : List Entry → Type 0
Rises [] = Unit {0}
Rises (x ∷ s) = Good x × All (Over x) s × Rises s

over_trans : (x y z : Entry) → Good x → Over x y → Over y z → Over x z
over_trans x y z g h k = elim (bool_cases (lower z x)) [
  | inl e ↦ clash (float_lel z.ratio y.ratio x.ratio k.0 h.0 g k.1 e) h.1
  | inr e ↦ (k.0, e)
]

pub over_self : (x : Entry) → Good x → Over x x
over_self x g = elim (bool_cases (lower x x)) [ inl e ↦ clash e (float_asym x.ratio x.ratio g g e) | inr e ↦ (g, e) ]

all_over : (x y : Entry) (s : List Entry) → Good x → Over x y → All (Over y) s → All (Over x) s
all_over x y [] g h a = a
all_over x y (z ∷ s) g h a = (over_trans x y z g h a.0, all_over x y s g h a.1)

insert_rises : (x : Entry) (s : List Entry) → Good x → Rises s → Rises (insert_by lower x s)
insert_rises x [] g a = (g, tt, tt)
insert_rises x (y ∷ s) g a = elim (bool_cases (lower y x)) [
  | inl e ↦ simp e (a.0, all_insert (Over y) lower x s (g, float_asym x.ratio y.ratio g a.0 e) a.1, insert_rises x s g a.2)
  | inr e ↦ simp e (g, ((a.0, refl), all_over x y s g (a.0, e) a.1), a)
]

pub sort_rises : (s : List Entry) → All Good s → Rises (sort_by lower s)
sort_rises [] a = tt
sort_rises (x ∷ s) a = insert_rises x (sort_by lower s) a.0 (sort_rises s a.1)

pub all_good : (ps : List ℕ) (rs : List Float) (ws : List ℤ) → AllPositive rs → All Good (zip ps rs ws)
all_good [] rs ws a = tt
all_good (p ∷ ps) [] ws a = tt
all_good (p ∷ ps) (r ∷ rs) [] a = tt
all_good (p ∷ ps) (r ∷ rs) (w ∷ ws) a = (a 0 (omega arith), all_good ps rs ws (λ i h. a (suc i) (suc-le-suc h)))

-- ---- of entries that rise, the column of ratios is what a search asks for
over_at : (x : Entry) (s : List Entry) (i : ℕ) → i < length (map (λ (e : Entry). e.ratio) s) → All (Over x) s → lt (get_or (map (λ (e : Entry). e.ratio) s) i nan) x.ratio ≡ false
over_at x [] i h a = absurd (not-suc-le-zero h)
over_at x (y ∷ s) zero h a = a.0.1
over_at x (y ∷ s) (suc i) h a = over_at x s i (le_of_suc-le-suc h) a.1

pub never_falls : (s : List Entry) → Rises s → NeverFalls (map (λ (e : Entry). e.ratio) s)
never_falls [] a i j h k = absurd (not-suc-le-zero k)
never_falls (x ∷ s) a i zero h k = absurd (not-suc-le-zero h)
never_falls (x ∷ s) a zero (suc j) h k = over_at x s j (le_of_suc-le-suc k) a.1
never_falls (x ∷ s) a (suc i) (suc j) h k = never_falls s a.2 i j (le_of_suc-le-suc h) (le_of_suc-le-suc k)

pub all_positive : (s : List Entry) → Rises s → AllPositive (map (λ (e : Entry). e.ratio) s)
all_positive [] a i h = absurd (not-suc-le-zero h)
all_positive (x ∷ s) a zero h = a.0
all_positive (x ∷ s) a (suc i) h = all_positive s a.2 i (le_of_suc-le-suc h)

-- ---- entries of one ratio keep their order
-- x is like y, and y is below e: x is below e too
like_below : (x y e : Entry) → Good x → Good y → Good e → same x y ≡ true → lower y e ≡ true → same x e ≡ false
like_below x y e gx gy ge s l = elim (bool_cases (lower y x)) [
  | inl h ↦ clash s (out (lower x y) h)
  | inr h ↦ rw (float_lel y.ratio x.ratio e.ratio gy gx ge h l)
]
  where
    out : (a : Bool) {b : Bool} → b ≡ true → (not a && not b) ≡ false
    out true h = refl
    out false h = rw h

insert_likes : (x e : Entry) (s : List Entry) → Good x → Good e → All Good s → likes x (insert_by lower e s) ≡ likes x (e ∷ s)
unfolding likes
insert_likes x e [] gx ge a = refl
insert_likes x e (y ∷ s) gx ge a = elim (bool_cases (lower y e)) [
  | inl l ↦ elim (bool_cases (same x y)) [
    | inl m ↦ rw (l, m, like_below x y e gx a.0 ge m l) (ap (λ (k : List Entry). y ∷ k) (insert_likes x e s gx ge a.1 ∙ rw (like_below x y e gx a.0 ge m l)))
    | inr m ↦ rw (l, m) (insert_likes x e s gx ge a.1)
  ]
  | inr l ↦ rw l
]

all_sorted : (s : List Entry) → All Good s → All Good (sort_by lower s)
all_sorted [] a = a
all_sorted (e ∷ s) a = all_insert Good lower e (sort_by lower s) a.0 (all_sorted s a.1)

sort_likes : (x : Entry) (s : List Entry) → Good x → All Good s → likes x (sort_by lower s) ≡ likes x s
unfolding likes
sort_likes x [] gx a = refl
sort_likes x (e ∷ s) gx a = insert_likes x e (sort_by lower s) gx a.0 (all_sorted s a.1) ∙ ap (λ (k : List Entry). pick (same x e) (e ∷ k) k) (sort_likes x s gx a.1)

pub sort_stable : (es : List Entry) → All Good es → StableOrder es (sort_by lower es)
sort_stable es a = record { above = all_positive (sort_by lower es) (sort_rises es a); rises = never_falls (sort_by lower es) (sort_rises es a); kept = λ x g. sort_likes x es g a }

-- ---- there is no other
self_like : (x : Entry) → Good x → same x x ≡ true
self_like x g = rw (over_self x g).1

likes_self : (x : Entry) (s : List Entry) → Good x → likes x (x ∷ s) ≡ x ∷ likes x s
unfolding likes
likes_self x s g = rw (self_like x g)

-- what is below the first of a list that rises is like none of it
none_like : (x : Entry) (s : List Entry) → Good x → All (λ (y : Entry). lower x y ≡ true) s → likes x s ≡ []
unfolding likes
none_like x [] g a = refl
none_like x (y ∷ s) g a = rw a.0 (none_like x s g a.1)

all_above : (x g : Entry) (s : List Entry) → Good x → Good g → lower x g ≡ true → All (Over g) s → All (λ (y : Entry). lower x y ≡ true) s
all_above x g [] gx gg l a = tt
all_above x g (y ∷ s) gx gg l a = (above y a.0, all_above x g s gx gg l a.1)
  where
    above : (y : Entry) → Over g y → lower x y ≡ true
    above y o = elim (bool_cases (lower x y)) [
      | inl e ↦ e
      | inr e ↦ clash (float_lel x.ratio y.ratio g.ratio gx o.0 gg e l) o.1
    ]

no_cons : {x : Entry} {s : List Entry} → ◌≡◌ {A = List Entry} (x ∷ s) [] → ⊥
no_cons e = let l : ◌≡◌ {A = ℕ} 0 1 = cc in omega arith

cons_head : {x y : Entry} {s t : List Entry} → ◌≡◌ {A = List Entry} (x ∷ s) (y ∷ t) → x ≡ y
cons_head e = cc

cons_tail : {x y : Entry} {s t : List Entry} → ◌≡◌ {A = List Entry} (x ∷ s) (y ∷ t) → s ≡ t
cons_tail e = cc

-- the heads of two such orders are like each other
not_below : (f g : Entry) (fs gs : List Entry) → Rises (f ∷ fs) → Rises (g ∷ gs) → likes f (f ∷ fs) ≡ likes f (g ∷ gs) → lower f g ≡ false
unfolding likes
not_below f g fs gs a b h = elim (bool_cases (lower f g)) [
  | inl l ↦ absurd (no_cons {x = f} {s = likes f fs} (sym (likes_self f fs a.0) ∙ h ∙ none_like f (g ∷ gs) a.0 (l, all_above f g gs a.0 b.0 l b.1)))
  | inr l ↦ l
]

same_rest : (x f : Entry) (fs gs : List Entry) → likes x (f ∷ fs) ≡ likes x (f ∷ gs) → likes x fs ≡ likes x gs
unfolding likes
same_rest x f fs gs h = go (same x f) h
  where
    go : (b : Bool) → pick b (f ∷ likes x fs) (likes x fs) ≡ pick b (f ∷ likes x gs) (likes x gs) → likes x fs ≡ likes x gs
    go true h = cons_tail h
    go false h = h

one_order : (fs gs : List Entry) → Rises fs → Rises gs → ((x : Entry) → Good x → likes x fs ≡ likes x gs) → fs ≡ gs
unfolding likes
one_order [] [] a b h = refl
one_order [] (g ∷ gs) a b h = absurd (no_cons {x = g} {s = likes g gs} (sym (likes_self g gs b.0) ∙ sym (h g b.0)))
one_order (f ∷ fs) [] a b h = absurd (no_cons {x = f} {s = likes f fs} (sym (likes_self f fs a.0) ∙ h f a.0))
one_order (f ∷ fs) (g ∷ gs) a b h =
    let below = not_below f g fs gs a b (h f a.0) in
    let above = not_below g f gs fs b a (sym (h g b.0)) in
    let like : same f g ≡ true = rw (below, above) in
    let first : f ∷ likes f fs ≡ g ∷ likes f gs = sym (likes_self f fs a.0) ∙ h f a.0 ∙ rw like in
    let e : f ≡ g = cons_head first in
    let rest = one_order fs gs a.2 b.2 (λ x gx. same_rest x f fs gs (h x gx ∙ ap (λ (y : Entry). likes x (y ∷ gs)) (sym e))) in
    λ i. e i ∷ rest i

-- from the definition's ratios to the entries
rises_from : (s : List Entry) → AllPositive (map (λ (e : Entry). e.ratio) s) → NeverFalls (map (λ (e : Entry). e.ratio) s) → Rises s
rises_from [] p n = tt
rises_from (x ∷ s) p n =
    (p 0 (omega arith), over x s (λ i l. p (suc i) (suc-le-suc l)) (λ i l. n 0 (suc i) (omega arith) (suc-le-suc l)), rises_from s (λ i l. p (suc i) (suc-le-suc l)) (λ i j l k. n (suc i) (suc j) (suc-le-suc l) (suc-le-suc k)))
  where
    over : (x : Entry) (s : List Entry) → AllPositive (map (λ (e : Entry). e.ratio) s) → ((i : ℕ) → i < length (map (λ (e : Entry). e.ratio) s) → lt (get_or (map (λ (e : Entry). e.ratio) s) i nan) x.ratio ≡ false) → All (Over x) s
    over x [] p n = tt
    over x (y ∷ s) p n = ((p 0 (omega arith), n 0 (omega arith)), over x s (λ i l. p (suc i) (suc-le-suc l)) (λ i l. n (suc i) (suc-le-suc l)))

-- so `sort_by lower` is THE stable order
pub stable_one : (es fs : List Entry) → All Good es → StableOrder es fs → fs ≡ sort_by lower es
stable_one es fs a s = one_order fs (sort_by lower es) (rises_from fs s.above s.rises) (sort_rises es a) (λ x g. s.kept x g ∙ sym (sort_likes x es g a))
