-- What a required line is read as, and that this is what the language says of it: its value, or the first number of document
-- 01's order. Assumes nothing.
use Rattle.std.specs.Prelude.{Ok, Err, Result}
use mathlib.Core.Path.{◌≡◌, refl, sym, ◌∙◌, ap}
use mathlib.Core.Bool.{Bool, true, false}
use mathlib.Core.List.{List}
use mathlib.Core.Logic.{inl, inr}
use Prim.Native.Nat.{ℕ, ◌^◌}
use lib.Dec.{lit<}
use lib.Ieee.{Float}
use lib.IntN.{pos, nat_abs}
use Rattle.base.specs.Numbers.{int_value, float_value, unusable}
use Rattle.base.specs.Said.{Said, gives, refuses, pick, and_then}
use Rattle.base.proofs.Said.{same_value, no_value, no_refusal, same_refuses}
use Rattle.floats.specs.Ranges.{in_pitch}
use Rattle.decimals.proofs.Language.{gives_sound, gives_complete, leaves_sound, leaves_complete, refuses_sound, refuses_complete}
use Rattle.integers.proofs.AtLine.{int_gives, gives_int, int_refuses, refuses_int, int_is, int_wrong, unsigned}
use Rattle.decimals.specs.Answers.{says_decimal}
use Rattle.decimals.specs.DecimalScan.{read_decimal}
use Rattle.decimals.specs.DecimalText.{DecimalText}
use Rattle.integers.specs.AtLine.{int_at}
use Rattle.integers.specs.Integer.{read_int}
use Rattle.decimals.specs.declared.DecimalError.{DecimalError}
use Rattle.decimals.specs.declared.DecimalError.TheVariants as decimal
use Rattle.kbm_read.specs.Language.{Required, Seen, Value, Gives, Wrong}
use Rattle.kbm_read.proofs.LastKey.{last_key_at, last_gives, gives_last, last_refuses, backwards_said}

-- the pitch, where it is in its range
abbrev pub pitch_of : ℕ → Float → Said Float
pitch_of k v = pick (in_pitch v) (gives v) (refuses unusable k)

-- what the token t of line k is, as a required line, after that first key
abbrev pub read_as : (f : Required) → Seen → ℕ → List ℕ → Said (Value f)
read_as Required.size key k t = and_then (int_at int_value k (read_int false (2 ^ 16) t)) (λ z. gives (nat_abs z))
read_as Required.first key k t = and_then (int_at int_value k (read_int true (2 ^ 31) t)) (λ z. gives z)
read_as Required.last key k t = and_then (int_at int_value k (read_int true (2 ^ 31) t)) (last_key_at key k)
read_as Required.middle key k t = and_then (int_at int_value k (read_int true (2 ^ 15) t)) (λ z. gives z)
read_as Required.reference key k t = and_then (int_at int_value k (read_int true (2 ^ 15) t)) (λ z. gives z)
read_as Required.pitch key k t = and_then (says_decimal float_value k (read_decimal t)) (pitch_of k)
read_as Required.octave key k t = and_then (int_at int_value k (read_int true (2 ^ 15) t)) (λ z. gives z)

-- the pitch, tested
pitch_gives : (k : ℕ) (u v : Float) → pitch_of k u ≡ gives v → (u ≡ v) × (in_pitch u ≡ true)
pitch_gives k u v e = go (in_pitch u) refl e
  where
    go : (b : Bool) → in_pitch u ≡ b → pick b (gives u) (refuses unusable k) ≡ gives v → (u ≡ v) × (in_pitch u ≡ true)
    go true p q = (same_value u v q, p)
    go false p q = no_value q

pitch_refuses : (k : ℕ) (u : Float) {n d : ℕ} → pitch_of k u ≡ refuses n d → (d ≡ k) × (n ≡ unusable) × (in_pitch u ≡ false)
pitch_refuses k u {n} {d} e = go (in_pitch u) refl e
  where
    go : (b : Bool) → in_pitch u ≡ b → pick b (gives u) (refuses unusable k) ≡ refuses n d → (d ≡ k) × (n ≡ unusable) × (in_pitch u ≡ false)
    go true p q = no_refusal q
    go false p q = let r = same_refuses q in (sym r.1, sym r.0, p)

-- A VALUE IS READ exactly if the token gives it
pub read_gives : (f : Required) (key : Seen) (k : ℕ) (t : List ℕ) (v : Value f) → read_as f key k t ≡ gives v → Gives f key t v
read_gives Required.size key k t v e =
    let r = int_gives int_value false (2 ^ 16) (lit< tt) k t (λ z. gives (nat_abs z)) e in
    let n : nat_abs r.0 ≡ v = same_value (nat_abs r.0) v r.2 in
    rw (sym (ap pos n) ∙ unsigned (2 ^ 16) t r.0 r.1) r.1
read_gives Required.first key k t v e = int_is int_value true (2 ^ 31) (lit< tt) k t v e
read_gives Required.last key k t v e =
    let r = int_gives int_value true (2 ^ 31) (lit< tt) k t (last_key_at key k) e in
    let p = last_gives key k r.0 v r.2 in
    rw (sym p.0) (r.1, p.1, p.2)
read_gives Required.middle key k t v e = int_is int_value true (2 ^ 15) (lit< tt) k t v e
read_gives Required.reference key k t v e = int_is int_value true (2 ^ 15) (lit< tt) k t v e
read_gives Required.pitch key k t v e = go (read_decimal t) refl e
  where
    go : (x : (Result Float DecimalError)) → read_decimal t ≡ x → and_then (says_decimal float_value k x) (pitch_of k) ≡ gives v → DecimalText t v × (in_pitch v ≡ true)
    go (Ok u) p q = let g = pitch_gives k u v q in rw (sym g.0) (gives_sound t u p, g.1)
    go (Err decimal.Unsupported) p q = no_value q
    go (Err decimal.Bad) p q = no_value q
read_gives Required.octave key k t v e = int_is int_value true (2 ^ 15) (lit< tt) k t v e

pub gives_read : (f : Required) (key : Seen) (k : ℕ) (t : List ℕ) (v : Value f) → Gives f key t v → read_as f key k t ≡ gives v
gives_read Required.size key k t v g = gives_int int_value false (2 ^ 16) (lit< tt) k t (λ z. gives (nat_abs z)) g
gives_read Required.first key k t v g = gives_int int_value true (2 ^ 31) (lit< tt) k t (λ z. gives z) g
gives_read Required.last key k t v g = gives_int int_value true (2 ^ 31) (lit< tt) k t (last_key_at key k) g.0 ∙ gives_last key k g.0 g.1 g.2
gives_read Required.middle key k t v g = gives_int int_value true (2 ^ 15) (lit< tt) k t (λ z. gives z) g
gives_read Required.reference key k t v g = gives_int int_value true (2 ^ 15) (lit< tt) k t (λ z. gives z) g
gives_read Required.pitch key k t v g = rw (gives_complete t v g.0, g.1)
gives_read Required.octave key k t v g = gives_int int_value true (2 ^ 15) (lit< tt) k t (λ z. gives z) g

-- IT IS REFUSED, at its line, exactly with the number that it draws
pub read_wrong : (f : Required) (key : Seen) (k : ℕ) (t : List ℕ) (n d : ℕ) → read_as f key k t ≡ refuses n d → (d ≡ k) × Wrong f key t n
read_wrong Required.size key k t n d e = int_wrong int_value false (2 ^ 16) (lit< tt) k t nat_abs e
read_wrong Required.first key k t n d e = int_wrong int_value true (2 ^ 31) (lit< tt) k t (λ z. z) e
read_wrong Required.last key k t n d e = elim (int_refuses int_value true (2 ^ 31) (lit< tt) k t (last_key_at key k) e) [
  | inl w ↦ (w.0, inl w.1)
  | inr w ↦ let l = last_refuses key k w.1 w.2 in (l.0, inr l.1)
]
read_wrong Required.middle key k t n d e = int_wrong int_value true (2 ^ 15) (lit< tt) k t (λ z. z) e
read_wrong Required.reference key k t n d e = int_wrong int_value true (2 ^ 15) (lit< tt) k t (λ z. z) e
read_wrong Required.pitch key k t n d e = go (read_decimal t) refl e
  where
    go : (x : (Result Float DecimalError)) → read_decimal t ≡ x → and_then (says_decimal float_value k x) (pitch_of k) ≡ refuses n d → (d ≡ k) × Wrong Required.pitch key t n
    go (Ok u) p q = let g = pitch_refuses k u q in (g.0, inr (inr (g.1, u, gives_sound t u p, g.2)))
    go (Err decimal.Unsupported) p q = let r = same_refuses q in (sym r.1, inr (inl (sym r.0, leaves_sound t p)))
    go (Err decimal.Bad) p q = let r = same_refuses q in (sym r.1, inl (sym r.0, refuses_sound t p))
read_wrong Required.octave key k t n d e = int_wrong int_value true (2 ^ 15) (lit< tt) k t (λ z. z) e

pub wrong_read : (f : Required) (key : Seen) (k : ℕ) (t : List ℕ) (n : ℕ) → Wrong f key t n → read_as f key k t ≡ refuses n k
wrong_read Required.size key k t n w = refuses_int int_value false (2 ^ 16) (lit< tt) k t (λ z. gives (nat_abs z)) w
wrong_read Required.first key k t n w = refuses_int int_value true (2 ^ 31) (lit< tt) k t (λ z. gives z) w
wrong_read Required.last key k t n (inl w) = refuses_int int_value true (2 ^ 31) (lit< tt) k t (last_key_at key k) w
wrong_read Required.last key k t n (inr (inl w)) = rw w.0 (gives_int int_value true (2 ^ 31) (lit< tt) k t (last_key_at key k) w.1)
wrong_read Required.last key k t n (inr (inr w)) = gives_int int_value true (2 ^ 31) (lit< tt) k t (last_key_at key k) w.2 ∙ backwards_said key k w
wrong_read Required.middle key k t n w = refuses_int int_value true (2 ^ 15) (lit< tt) k t (λ z. gives z) w
wrong_read Required.reference key k t n w = refuses_int int_value true (2 ^ 15) (lit< tt) k t (λ z. gives z) w
wrong_read Required.pitch key k t n (inl w) = rw (w.0, refuses_complete t w.1)
wrong_read Required.pitch key k t n (inr (inl w)) = rw (w.0, leaves_complete t w.1)
wrong_read Required.pitch key k t n (inr (inr w)) = rw (w.0, gives_complete t w.1 w.2, w.3)
wrong_read Required.octave key k t n w = refuses_int int_value true (2 ^ 15) (lit< tt) k t (λ z. gives z) w
