-- How long the line of a number is, by the size of the number. Assumes nothing.
use mathlib.Core.Path.{◌≡◌, refl}
use mathlib.Core.Bool.{Bool, true, false}
use Prim.Native.Nat.{ℕ, zero, suc, ◌+◌, ◌*◌, ◌-◌, ◌/◌, ◌%◌, ◌^◌, ◌≤◌, ◌<◌}
use native.Mathlib.Nat.{div-lt_iff_lt-mul, le_trans, le_of_eq, mul-le-mul_right, mul-one, mul_right_comm}
use native.Mathlib.Omega.{arith}
use lib.Dec.{ltb, lit<}
use lib.Ieee.{Float, up, down}
use lib.Ieee.Fits.{down_pos}
use lib.Ieee.Nearest.{closest, closest_mono}
use lib.IntN.{ℤ, pos, negsuc}
use lib.ListN.{length}
use lib.Signed.{mag}
use borrow.Author.Tests.{ltb-false}
use Rattle.base.specs.Said.{pick}
use Rattle.floats.proofs.Sized.{Sized, sized}
use Rattle.floats.specs.Units.{negative}
use Rattle.printing.specs.PrintText.{width_of, scaled_of, sign_text, integer_text, whole_text, text_of}
use Rattle.printing.proofs.Texts.{shorter, parts_length, sign_le, point_le}
use Rattle.writing.specs.Lines.{line, number_text}
use Rattle.writing.proofs.Lines.{length_line, length_number}

-- a number below 10^g has at most g digits
pub width_under : (f g n : ℕ) → 0 < g → n < 10 ^ g → width_of f n ≤ g
width_under zero g n p h = omega arith
width_under (suc f) g n p h = go (ltb n 10) refl (width_under f (g - 1) (n / 10))
  where
    go : (b : Bool) → ltb n 10 ≡ b → (0 < g - 1 → n / 10 < 10 ^ (g - 1) → width_of f (n / 10) ≤ g - 1) → pick b 1 (suc (width_of f (n / 10))) ≤ g
    go true e rest = omega arith
    go false e rest =
        let s = shorter g n (ltb-false n 10 e) h in
        omega (arith, rest (omega (arith, s.0)) s.1, s.0)

-- the line of an integer of so many digits
pub line_under : (g : ℕ) (z : ℤ) → 0 < g → suc (mag z) < 10 ^ g → length (line (whole_text z)) ≤ g + 2
line_under g (pos n) p h =
    omega (arith, length_line (integer_text false n), parts_length false false n (width_of 18 n) 0 0, width_under 18 g n p (omega arith), sign_le false false)
line_under g (negsuc n) p h =
    omega (arith, length_line (integer_text true (suc n)), parts_length true false (suc n) (width_of 18 (suc n)) 0 0, width_under 18 g (suc n) p h, sign_le true false)

-- an integer of g digits without a sign, and a byte after it
pub number_under : (g n end : ℕ) → 0 < g → n < 10 ^ g → length (number_text n end) ≤ g + 1
number_under g n end p h = omega (arith, length_number n end, parts_length false false n (width_of 18 n) 0 0, width_under 18 g n p h)

-- a count has five digits and no sign
pub size_line : (n : ℕ) → n ≤ 65535 → length (line (whole_text (pos n))) ≤ 6
size_line n h = number_under 5 n 10 (lit< tt) (omega arith)

-- a number of at most n has at most n * 1000 thousandths
pub few_thousandths : (n : ℕ) {x : Float} → Sized n x → scaled_of 3 x ≤ closest (n * 10 ^ 3) 1
few_thousandths n (sized s m e h) =
    closest_mono (m * up e * 10 ^ 3) (down e) (n * 10 ^ 3) 1 (down_pos e) (lit< tt)
    (le_trans (le_of_eq (mul-one (m * up e * 10 ^ 3))) (le_trans (mul-le-mul_right (10 ^ 3) h) (le_of_eq (mul_right_comm n (down e) (10 ^ 3)))))

-- a number of g digits before the dot, and three after it, with its sign
pub three_under : (g : ℕ) (x : Float) → 0 < g → scaled_of 3 x < 10 ^ g * 10 ^ 3 → length (line (text_of 3 false x)) ≤ length (sign_text (negative x) false) + (g + 5)
three_under g x p h =
    let n = scaled_of 3 x in
    let w : n / 10 ^ 3 < 10 ^ g = (div-lt_iff_lt-mul {y = 10 ^ g} (lit< tt)).1 h in
    omega (arith, length_line (text_of 3 false x), parts_length (negative x) false (n / 10 ^ 3) (width_of 18 (n / 10 ^ 3)) (n % 10 ^ 3) 3, width_under 18 g (n / 10 ^ 3) p w, point_le 3)
