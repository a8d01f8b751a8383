-- The pushes of ratios: one by one they come to those of their cents, and none is refused. Assumes nothing.
use mathlib.Core.Path.{◌≡◌, refl, sym, ◌∙◌, ap, subst}
use mathlib.Core.Bool.{true}
use mathlib.Core.List.{List, [], ◌∷◌}
use Prim.Native.Nat.{ℕ, zero, suc, ◌+◌, ◌-◌, ◌≤◌, ◌<◌}
use native.Mathlib.Numerals.{add-one}
use native.Mathlib.Omega.{arith}
use lib.Ieee.{Float, nan, binary64, mul}
use lib.ListN.{length, get_or, take, drop, drop_of_length-le}
use lib.Seq.{drop-cons, length-take-le}
use Rattle.base.specs.Said.{Said, gives, refuses, and_then}
use Rattle.base.proofs.Said.{no_value, same_value}
use Rattle.explog.specs.Rules.{log_of}
use Rattle.floats.specs.Floats.{zero_f}
use Rattle.pitch.specs.Ratios.{twelve_f, hundred_f, as_cents}
use Rattle.scl.specs.Items.{is_usable_cents, AllHeld}
use Rattle.scl.specs.Table.{ItemTable, no_item, implicit, are_usable}
use Rattle.scl.specs.declared.Item.{Item}
use Rattle.scl.specs.declared.Item.TheVariants.{Cents}
use Rattle.scl_tables.specs.Build.{last_of}
use Rattle.scl_build.specs.Builder.{Built, beside, builder_after, pushed_ratio, after_ratio, after_one, after_all}
use Rattle.scl_build.specs.declared.SclBuilder.{SclBuilder}
use Rattle.generate.proofs.Kept.{Kept, kept_all, kept_push}
use Rattle.rank2.specs.Rank2.{pushed_as}
use Rattle.rank2.specs.Steps.{after_one_ratio, after_ratios}
use Rattle.rank2.proofs.Ascends.{last_after}
use Rattle.rank2.proofs.Given.{cents_said, cents_given}
use Rattle.rank2.proofs.Values.{Ranged, AllRanged}

-- ---- one push
module _ (b : SclBuilder) (t : ItemTable) (r : Float) {t' : ItemTable} (w : t' ≡ after_ratio b t r) where
  pub push_given : {b' : SclBuilder} → gives b' ≡ pushed_ratio b t r → beside b' t' ≡ after_one_ratio (beside b t) r
  push_given e = let p = ap (builder_after b) e in λ j. beside (p j) (w j)

  pub push_kept : {n d : ℕ} → refuses n d ≡ pushed_ratio b t r → beside b t' ≡ after_one_ratio (beside b t) r
  push_kept e = let p = ap (builder_after b) e in λ j. beside (p j) (w j)

-- it changes no column's length
pub ratio_kept : (s : Built) (r : Float) {s' : Built} → s' ≡ after_one_ratio s r → Kept s'.table s.table
unfolding after_ratio
ratio_kept s r e = subst (λ (z : Built). Kept z.table s.table) (sym e) (go (as_cents r))
  where
    go : (x : Said Float) → Kept (Rattle.scl_build.specs.Builder.after_cents s.builder s.table x) s.table
    go (gives c) = kept_push s.builder s.table (Cents c)
    go (refuses n d) = kept_all s.table

-- ---- the run of them
module _ (l : List Float) (n : ℕ) (roomy : n ≤ length l) where
  front : length (take n l) ≡ n
  front = length-take-le n l roomy

  take_at : (n i : ℕ) (l : List Float) → i < n → get_or (take n l) i nan ≡ get_or l i nan
  take_at zero i l h = absurd (omega arith)
  take_at (suc n) i [] h = refl
  take_at (suc n) zero (x ∷ xs) h = refl
  take_at (suc n) (suc i) (x ∷ xs) h = take_at n i xs (omega arith)

  pub one_pushed : (i : ℕ) (s : Built) {s' : Built} → i < n → s' ≡ after_one_ratio s (get_or l i nan) → after_ratios s' (drop (i + 1) (take n l)) ≡ after_ratios s (drop i (take n l))
  unfolding after_ratios
  one_pushed i s h e =
      let c = drop-cons (take n l) i nan (omega (arith, h, front)) in
      rw (e, c, take_at n i l h, add-one i)

  pub all_pushed : (i : ℕ) {s : Built} → n ≤ i → after_ratios s (drop i (take n l)) ≡ s
  unfolding after_ratios
  all_pushed i h = rw (drop_of_length-le (take n l) {i = i} (omega (arith, h, front)))

-- ---- where each has cents, these are the items
ratio_turn : (s : Built) (r c : Float) → as_cents r ≡ gives c → after_one_ratio s r ≡ after_one s (Cents c)
unfolding pushed_ratio after_ratio
ratio_turn s r c e = rw e

pub ratios_run : (rs : List Float) (s : Built) {is : List Item} → pushed_as rs ≡ gives is → after_ratios s rs ≡ after_all s is
unfolding pushed_as after_ratios after_all
ratios_run [] s {is} e = ap (after_all s) (same_value [] is e)
ratios_run (r ∷ rs) s {is} e = go (as_cents r) (pushed_as rs) refl refl (λ z is q. ratios_run rs z q) e
  where
    go : (x : Said Float) (y : Said (List Item)) → as_cents r ≡ x → pushed_as rs ≡ y → ((z : Built) (is : List Item) → pushed_as rs ≡ gives is → after_ratios z rs ≡ after_all z is) → and_then x (λ c. and_then y (λ is. gives (Cents c ∷ is))) ≡ gives is → after_ratios (after_one_ratio s r) rs ≡ after_all s is
    go (gives c) (gives is') p q g h = ap (λ (z : Built). after_ratios z rs) (ratio_turn s r c p) ∙ g (after_one s (Cents c)) is' q ∙ ap (after_all s) (same_value (Cents c ∷ is') is h)
    go (gives c) (refuses a d) p q g h = no_value h
    go (refuses a d) y p q g h = no_value h

-- ---- none is refused
pub record Cented (x : Float) : Type 0 where
  pub cents : Float
  pub is : as_cents x ≡ gives cents
  pub usable : is_usable_cents cents ≡ true

pub cented : (x : Float) → Ranged x → Cented x
cented x r =
    let e = cents_said x r.held r.within in
    record { cents = mul binary64 (mul binary64 (log_of x) twelve_f) hundred_f; is = e; usable = (cents_given x r.held r.within (sym e)).1 }

pub record Pushed (rs : List Float) : Type 0 where
  pub items : List Item
  pub are : pushed_as rs ≡ gives items
  pub size : length items ≡ length rs
  pub usable : are_usable items ≡ true
  pub held : AllHeld items

pub all_items : (rs : List Float) → AllRanged rs → Pushed rs
unfolding pushed_as are_usable
all_items [] a = record { items = []; are = refl; size = refl; usable = refl; held = tt }
all_items (r ∷ rs) a =
    let x = cented r a.0 in
    let m = all_items rs a.1 in
    record {
      items = Cents x.cents ∷ m.items;
      are = rw (x.is, m.are);
      size = ap suc m.size;
      usable = rw x.usable m.usable;
      held = (tt, m.held);
    }

-- ---- the last one of them
last_more : (x i : Item) (is : List Item) → last_of (x ∷ i ∷ is) ≡ last_of (i ∷ is)
last_more x i is = let y : suc (length (i ∷ is)) - 1 ≡ suc (length (i ∷ is) - 1) = omega arith in ap (λ (q : ℕ). get_or (x ∷ i ∷ is) q no_item) y

last_from : (rs : List Float) (d : Float) {a c : Float} {is : List Item} → pushed_as rs ≡ gives is → as_cents d ≡ gives a → as_cents (last_after d rs) ≡ gives c → last_of (Cents a ∷ is) ≡ Cents c
unfolding pushed_as
last_from [] d {a} {c} {is} e p q = ap (λ (l : List Item). last_of (Cents a ∷ l)) (sym (same_value [] is e)) ∙ ap Cents (same_value a c (sym p ∙ q))
last_from (r ∷ rs) d {a} {c} {is} e p q = go (as_cents r) (pushed_as rs) refl refl (λ b is u v. last_from rs r {a = b} {c = c} v u q) e
  where
    go : (x : Said Float) (y : Said (List Item)) → as_cents r ≡ x → pushed_as rs ≡ y → ((b : Float) (is : List Item) → as_cents r ≡ gives b → pushed_as rs ≡ gives is → last_of (Cents b ∷ is) ≡ Cents c) → and_then x (λ c. and_then y (λ is. gives (Cents c ∷ is))) ≡ gives is → last_of (Cents a ∷ is) ≡ Cents c
    go (gives b) (gives is') u v g h =
        ap (λ (l : List Item). last_of (Cents a ∷ l)) (sym (same_value (Cents b ∷ is') is h)) ∙ last_more (Cents a) (Cents b) is' ∙ g b is' u v
    go (gives b) (refuses n m) u v g h = no_value h
    go (refuses n m) y u v g h = no_value h

pub last_item : (rs : List Float) → AllRanged rs → 0 < length rs → {c : Float} {is : List Item} → pushed_as rs ≡ gives is → as_cents (last_after zero_f rs) ≡ gives c → last_of (implicit ∷ is) ≡ Cents c
unfolding pushed_as
last_item [] a some e q = absurd (omega arith)
last_item (r ∷ rs) a some {c} {is} e q =
    let x = cented r a.0 in
    let m = all_items rs a.1 in
    let w : pushed_as (r ∷ rs) ≡ gives (Cents x.cents ∷ m.items) = rw (x.is, m.are) in
    let h : Cents x.cents ∷ m.items ≡ is = same_value (Cents x.cents ∷ m.items) is (sym w ∙ e) in
    ap (λ (l : List Item). last_of (implicit ∷ l)) (sym h) ∙ last_more implicit (Cents x.cents) m.items ∙ last_from rs r m.are x.is q
