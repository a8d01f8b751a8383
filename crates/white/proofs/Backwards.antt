-- What stands before a place, read from its end: `reverse (take e s)`. Assumes nothing.
use mathlib.Core.Path.{◌≡◌, sym, ◌∙◌, ap}
use mathlib.Core.List.{List, [], ◌∷◌, reverse, reverse-append}
use Prim.Native.Nat.{ℕ, zero, suc, ◌-◌, ◌≤◌, ◌<◌}
use native.Mathlib.Omega.{arith}
use lib.ListN.{length, get_or, take, drop, length-reverse, get_or-eq_default}
use lib.Seq.{take-suc, take-length, length-take-le}

-- the last byte before a place comes first
pub back_next : (s : List ℕ) (k : ℕ) → k < length s → reverse (take (suc k) s) ≡ get_or s k 0 ∷ reverse (take k s)
back_next s k h = rw (take-suc s k 0 h) (reverse-append (take k s) (get_or s k 0 ∷ []))

-- without the first n it is what stands before n places less
pub back_drop : (s : List ℕ) (n e : ℕ) → n ≤ e → e ≤ length s → drop n (reverse (take e s)) ≡ reverse (take (e - n) s)
back_drop s zero e h g = let x : e ≡ e - 0 = omega arith in ap (λ (k : ℕ). reverse (take k s)) x
back_drop s (suc n) zero h g = absurd (omega arith)
back_drop s (suc n) (suc k) h g =
    let x : k - n ≡ suc k - suc n = omega arith in
    ap (drop (suc n)) (back_next s k (omega arith)) ∙ back_drop s n k (omega arith) (omega arith) ∙ ap (λ (m : ℕ). reverse (take m s)) x

-- the same of all of s
pub back_keep : (s : List ℕ) (n : ℕ) → n ≤ length s → drop n (reverse s) ≡ reverse (take (length s - n) s)
back_keep s n h = ap (λ (l : List ℕ). drop n (reverse l)) (sym (take-length s)) ∙ back_drop s n (length s) h (omega arith)

pub length_back : (s : List ℕ) (e : ℕ) → e ≤ length s → length (reverse (take e s)) ≡ e
length_back s e h = length-reverse (take e s) ∙ length-take-le e s h

-- its byte at k is that of s at e - 1 - k
pub back_at : (s : List ℕ) (k e : ℕ) → k < e → e ≤ length s → get_or s (e - 1 - k) 0 ≡ get_or (reverse (take e s)) k 0
back_at s k zero h g = absurd (omega arith)
back_at s zero (suc e) h g =
    let x : suc e - 1 - 0 ≡ e = omega arith in
    ap (λ (m : ℕ). get_or s m 0) x ∙ sym (ap (λ (l : List ℕ). get_or l 0 0) (back_next s e (omega arith)))
back_at s (suc k) (suc e) h g =
    let x : suc e - 1 - suc k ≡ e - 1 - k = omega arith in
    ap (λ (m : ℕ). get_or s m 0) x ∙ back_at s k e (omega arith) (omega arith) ∙ sym (ap (λ (l : List ℕ). get_or l (suc k) 0) (back_next s e (omega arith)))

-- before its end, and past it there is none
pub back_none : (s : List ℕ) (k e : ℕ) → e ≤ k → e ≤ length s → 0 ≡ get_or (reverse (take e s)) k 0
back_none s k e h g = sym (get_or-eq_default (reverse (take e s)) 0 {n = k} (omega (arith, length_back s e g)))
