-- The parts are x's sign, digits and exponent in units of 2 ^ -1074.
-- No loop; the fields of the bits are `located` of Decode.antt.
use Rattle.std.proofs.Common.{◌≡◌, ℕ, zero, suc, ◌+◌, ◌-◌, ◌*◌, ◌/◌, ◌^◌, Bool, not, T, leb, sym, refl, subst, add_comm, arith}
use lib.Bits.{bit_and, and_mask, mask_lt}
use lib.Ieee.{Float, fin, binary64, fits, to_bits, is_nan, inf, nan}
use lib.Ieee.Scale.{finite}
use Rattle.floats.specs.Units.{Unpacked}
use Rattle.floats.proofs.Decode.{Located, located, units_of_law, digits_of, exp_of}
use Rattle.floats.proofs.unpack.Goals as goal
use Rattle.floats.proofs.unpack.Goals.{Start}

held : (c : Start) → T (fits binary64 c.args.x)
held c = subst T (sym c.well_formed.0.1) tt

unpacked : (x : Float) (s : Bool) (q j : ℕ) → Located x s q j → Unpacked x s q j
unpacked x s q j l =
    let u = units_of_law x s (q * 2 ^ j) l.value in
    record { sign = sym u.1; is = u.0; small = l.small; normal = l.normal; finite = l.under }

not_nan : (x : Float) → T (finite x) → T (not (is_nan x))
unfolding is_nan
not_nan (fin s m e) h = tt
not_nan nan h = elim h [ ]
not_nan (inf _) h = elim h [ ]

-- the two ways to read a field
field_zero : (x : Float) (s : Bool) (z t : ℕ) → z ≡ 0 → Located x s (digits_of binary64 z t) (exp_of z) → Located x s t 0
field_zero x s zero t e l = l
field_zero x s (suc z) t e l = let n : ⊥ = omega arith in absurd n

field_more : (x : Float) (s : Bool) (z t : ℕ) → (z ≡ 0 → ⊥) → Located x s (digits_of binary64 z t) (exp_of z) → Located x s (t + 2 ^ 52) (z - 1)
field_more x s zero t n l = absurd (n refl)
field_more x s (suc z) t n l =
    let e : z ≡ suc z - 1 = omega arith in
    subst (λ (k : ℕ). Located x s (t + 2 ^ 52) k) e (subst (λ (d : ℕ). Located x s d z) (add_comm (2 ^ 52) t) l)

-- the bits with masks, as the program has them
masked : (x : Float) → T (fits binary64 x) → T (finite x) → (let b = to_bits binary64 x in let z = bit_and b (2 ^ 63 - 1) / 2 ^ 52 in Located x (leb (2 ^ 63) b) (digits_of binary64 z (bit_and b (2 ^ 52 - 1))) (exp_of z))
masked x p h = let b = to_bits binary64 x in rw (and_mask b 63, and_mask b 52) (located x p h)

pub float_to_bits-bits : goal.float_to_bits-bits
float_to_bits-bits c = not_nan c.args.x c.requires

pub overflow_add-result : goal.overflow_add-result
overflow_add-result c = omega (arith, mask_lt (to_bits binary64 c.args.x) 52)

pub returns-then-field-eq0 : goal.returns-then-field-eq0
returns-then-field-eq0 c = unpacked _ _ _ _ (field_zero _ _ _ _ c.if-field-eq0.true (masked c.args.x (held (goal.at.returns-then-field-eq0 c).Start) c.requires))

pub returns-else-field-eq0 : goal.returns-else-field-eq0
returns-else-field-eq0 c = unpacked _ _ _ _ (field_more _ _ _ _ c.if-field-eq0.false (masked c.args.x (held (goal.at.returns-else-field-eq0 c).Start) c.requires))
