-- A number in a range between two powers of two is finite and above zero, and lies between them as a fraction. Assumes nothing.
use Rattle.std.proofs.Common.{◌≡◌, ℕ, suc, ◌*◌, ◌^◌, ◌<◌, ◌≤◌, Bool, true, false, not, ◌&&◌, T, ℤ, pos, negsuc, sym, refl, ap, subst, le_trans, le_of_eq, one-mul, mul-one, ltb→lt, lt→ltb}
use lib.Ieee.{Float, nan, inf, fin, up, down, le, lt, eq, is_nan}
use lib.Ieee.Scale.{finite}
use lib.Ieee.Positive.{num, den, positive, le→cross, between}
use Rattle.floats.specs.Ranges.{within, in_reach, in_search, in_generator, in_pitch}

-- both tests hold
pub and_true : (a b : Bool) → a && b ≡ true → T a × T b
and_true true true h = (tt, tt)
and_true true false h = absurd (subst T (sym h) tt)
and_true false b h = absurd (subst T (sym h) tt)

-- from 2 ^ -a to 2 ^ b
pub data Within (a b : ℕ) : Float → Type 0 where
  within_fin : (m : ℕ) (e : ℤ) → 0 < m → down e ≤ m * up e * 2 ^ a → m * up e ≤ 2 ^ b * down e → Within a b (fin false m e)

-- what the test of a range says
pub within_says : (a b : ℕ) (x : Float) → le (fin false 1 (negsuc a)) x && le x (fin false 1 (pos b)) ≡ true → Within (suc a) b x
within_says a b x h =
    let lo = fin false 1 (negsuc a) in
    let hi = fin false 1 (pos b) in
    let t = and_true (le lo x) (le x hi) h in
    let p : T (positive x) = between lo x hi tt tt t.0 t.1 in
    go x p (le→cross lo x tt p t.0) (le→cross x hi p tt t.1)
  where
    go : (y : Float) → T (positive y) → 1 * 1 * den y ≤ num y * 2 ^ suc a → num y * 1 ≤ 1 * 2 ^ b * den y → Within (suc a) b y
    go nan p l h = absurd p
    go (inf s) p l h = absurd p
    go (fin true m e) p l h = absurd p
    go (fin false m e) p l h =
        within_fin m e (ltb→lt 0 m p) (le_trans (le_of_eq (sym (one-mul (down e)))) l)
        (le_trans (le_of_eq (sym (mul-one (m * up e)))) (le_trans h (le_of_eq (ap (λ (z : ℕ). z * down e) (one-mul (2 ^ b))))))

pub within_finite : {a b : ℕ} {x : Float} → Within a b x → T (finite x)
within_finite (within_fin m e p l h) = tt

pub within_positive : {a b : ℕ} {x : Float} → Within a b x → T (positive x)
within_positive (within_fin m e p l h) = lt→ltb 0 m p

pub within_no_nan : {a b : ℕ} {x : Float} → Within a b x → T (not (is_nan x))
unfolding is_nan
within_no_nan (within_fin m e p l h) = tt

-- the four ranges
pub reach_says : (x : Float) → in_reach x ≡ true → Within 900 900 x
reach_says x = within_says 899 900 x

pub search_says : (x : Float) → in_search x ≡ true → Within 64 64 x
search_says x = within_says 63 64 x

pub generator_says : (x : Float) → in_generator x ≡ true → Within 32 32 x
generator_says x = within_says 31 32 x

pub pitch_says : (x : Float) → in_pitch x ≡ true → Within 10 20 x
pitch_says x = within_says 9 20 x

-- "a NaN lies in no range"
pub nan_in_no_range : (low high : Float) → within low high nan ≡ false
unfolding le lt eq
nan_in_no_range nan high = refl
nan_in_no_range (inf s) high = refl
nan_in_no_range (fin s m e) high = refl
