-- T and P of document 01, "Logarithm and power". Assumes nothing.
use Rattle.std.specs.Prelude.{ℕ, zero, suc, ◌-◌, ◌*◌, ◌/◌, ◌%◌, ◌^◌, Bool, true, false, eqb}
use Rattle.powers.specs.Root.{root}

-- "T_0 = 2^63; T_k = floor of the square root of 2^62*T_(k-1)"
unfoldable pub t_of : ℕ → ℕ
t_of zero = 2 ^ 63
t_of (suc k) = root (2 ^ 62 * t_of k)

-- "if b's bit .. is set, P becomes floor(P*T_k/2^62)"
abbrev pub step_e : Bool → ℕ → ℕ → ℕ
step_e true p t = p * t / 2 ^ 62
step_e false p t = p

-- "P = 2^62; for k = 1..52 ..": P after k steps, for the fraction b; step k looks at "b's bit of weight 2^(52-k)"
unfoldable pub p_of : ℕ → ℕ → ℕ
p_of b zero = 2 ^ 62
p_of b (suc k) = step_e (eqb (b / 2 ^ (52 - suc k) % 2) 1) (p_of b k) (t_of (suc k))
