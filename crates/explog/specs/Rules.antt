-- E and L of document 01, "Logarithm and power", over whole numbers of either sign. Assumes nothing.
use Rattle.std.specs.Prelude.{ℕ, suc, ◌-◌, ◌*◌, ◌^◌, Bool, true, false, ℤ, pos, negsuc, ◌+ℤ◌, ◌-ℤ◌, ◌*ℤ◌, neg_ℤ, Float}
use Rattle.std.specs.Float.{nan, inf, fin, binary64}
use Rattle.std.specs.Float.Ieee.{up, down, round, size, neg}
use Rattle.base.specs.Numbers.{beyond_reach}
use Rattle.base.specs.Said.{Said, gives, refuses, pick}
use Rattle.base.specs.Integers.{floor_div, floor_mod}
use Rattle.floats.specs.Ranges.{within, in_reach}
use Rattle.explog.specs.Exp.{p_of}
use Rattle.explog.specs.Log.{b_of}

-- n with a sign
abbrev pub signed : Bool → ℕ → ℤ
signed false n = pos n
signed true n = neg_ℤ (pos n)

-- "f = floor(x*2^52)", for x = m * 2 ^ e with its sign
unfoldable pub floor_of : Float → ℤ
floor_of nan = pos 0
floor_of (inf s) = pos 0
floor_of (fin s m e) = floor_div (signed s (m * up e * 2 ^ 52)) (down e)

-- the f64 nearest p * 2 ^ z, ties to even
unfoldable pub times_power : ℕ → ℤ → Float
times_power p z = round binary64 false (p * up z) (down z)

-- "f = .. n*2^52 + b .. Result: the f64 nearest P*2^(n-62), ties to even"
unfoldable pub power_of : ℤ → Float
power_of f = times_power (p_of (floor_mod f (2 ^ 52)) 52) (floor_div f (2 ^ 52) -ℤ pos 62)

-- 900.0: 225 * 2 ^ 2
abbrev pub nine_hundred : Float
nine_hundred = fin false 225 (pos 2)

-- -900..900
abbrev pub in_powers : Float → Bool
in_powers = within (neg nine_hundred) nine_hundred

-- "E(x), -900 <= x <= 900, else 18"
unfoldable pub E : Float → Said Float
E x = pick (in_powers x) (gives (power_of (floor_of x))) (refuses beyond_reach 0)

-- z / 2 ^ 52 octaves: the f64 nearest, ties to even; "zero is +0.0"
unfoldable pub octaves_of : ℤ → Float
octaves_of (pos n) = round binary64 false n (2 ^ 52)
octaves_of (negsuc n) = round binary64 true (suc n) (2 ^ 52)

-- "x = m*2^e with 2^52 <= m < 2^53; y = m*2^10 .. Result: the f64 nearest ((e+52)*2^52 + B)/2^52"
unfoldable pub log_at : ℕ → ℤ → Float
log_at m e = octaves_of ((e +ℤ pos 52) *ℤ pos (2 ^ 52) +ℤ pos (b_of (m * 2 ^ 10) 52))

-- x as such an m and e: its digits, with zeros after them to make 53
unfoldable pub log_of : Float → Float
log_of nan = nan
log_of (inf s) = nan
log_of (fin s m e) = log_at (m * 2 ^ (53 - size m)) (e -ℤ pos (53 - size m))

-- "L(x), x in 2^-900..2^900, else 18"
unfoldable pub L : Float → Said Float
L x = pick (in_reach x) (gives (log_of x)) (refuses beyond_reach 0)
