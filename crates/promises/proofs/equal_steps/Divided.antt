-- NO STEP OF A DIVIDED SEGMENT LEAVES E's DOMAIN: its interval is in 1..2^16, so one of n equal steps has few octaves, and n times them
-- are at most 900. Assumes nothing.
use Rattle.std.specs.Prelude.{Some}
use mathlib.Core.Path.{◌≡◌, refl, sym, ◌∙◌, ap, subst}
use mathlib.Core.Bool.{true, false, true≢false}
use Prim.Native.Nat.{ℕ, suc, ◌+◌, ◌*◌, ◌^◌, ◌≤◌, ◌<◌}
use native.Mathlib.Nat.{le_trans, le_of_eq, lt_of_not-le, mul-one, mul_comm, mul_assoc, mul_left_comm, mul_right_comm, mul-pos, mul-le-mul_left, mul-le-mul_right}
use native.Mathlib.Decide.{dec_le}
use native.Mathlib.Omega.{arith}
use lib.Dec.{lit<, lit≤}
use lib.IntN.{ℤ}
use lib.Ieee.{Float, fin, binary64, up, down, round, fits, add, mul, div, of_int, inf, nan}
use lib.Ieee.Back.{round_whole}
use lib.Ieee.Bits.{is_true}
use lib.Ieee.Exact.{HasValue}
use lib.Ieee.Fits.{down_pos, up_pos, div-fits}
use lib.Ieee.Scale.{round_same}
use borrow.Author.Tests.{ne_eqb}
use Rattle.base.specs.Said.{Said, gives, and_then}
use Rattle.base.proofs.Said.{same_value}
use Rattle.floats.specs.Floats.{float}
use Rattle.floats.specs.Ranges.{in_reach}
use Rattle.floats.proofs.Between.{quotient_within, within_more, within_reach}
use Rattle.floats.proofs.Ranges.{Within}
use Rattle.floats.proofs.Sized.{Sized, sized, round_sized, sized_more}
use Rattle.explog.specs.Exp.{t_of}
use Rattle.explog.specs.Log.{b_of, y_of}
use Rattle.explog.specs.Root.{root, root_from}
use Rattle.explog.specs.Rules.{E, in_powers, floor_of, power_of, log_of}
use Rattle.explog.proofs.Reach.{log_sized, exp_within, sized_powers}
use Rattle.pitch.specs.Given.{computed}
use Rattle.pitch.specs.Ratios.{from_float, as_octaves, from_octaves, divided_into}
use Rattle.scl.proofs.Items.{octaves_ratio}
use Rattle.scl_tables.proofs.Reaches.{log_gives}
use Rattle.harmonics.specs.Segment.{interval_of, steps_of}
use Rattle.harmonics.proofs.Sizes.{times}
use Rattle.harmonics.proofs.Theorems.{sum_of}
use Rattle.promises.proofs.equal_steps.Octaves.{Up, up_to, log_up, log_small}
use Rattle.promises.proofs.equal_steps.Small.{Small, small, round_small, exp_small}

-- ---- one of n parts
pub over : (m : ℕ) (e : ℤ) (n : ℕ) (w : Float) → HasValue w false n 1 → 0 < n → div binary64 (fin false m e) w ≡ round binary64 false (m * up e) (down e * n)
unfolding div
over m e n (fin true i d) v p = absurd (true≢false v.0)
over m e n (fin false i d) v p =
    let y : i * up d ≡ n * down d = sym (mul-one (i * up d)) ∙ v.1 in
    rw (ne_eqb i 0 (some i y))
    (round_same binary64 false (m * up e * down d) (i * up d * down e) (m * up e) (down e * n) (mul-pos (mul-pos (native.Mathlib.Nat.pos_of_ne-zero (some i y)) (up_pos d)) (down_pos e)) (mul-pos (down_pos e) p)
    (cross (m * up e) (i * up d) (down e) n (down d) y))
  where
    cross : (a b c n d : ℕ) → b ≡ n * d → a * d * (c * n) ≡ a * (b * c)
    cross a b c n d h = rw h (simp (mul_assoc, mul_comm, mul_left_comm))

    some : (i : ℕ) → i * up d ≡ n * down d → i ≡ 0 → ⊥
    some i y z =
        let q : i * up d ≡ 0 = ap (λ (j : ℕ). j * up d) z ∙ native.Mathlib.Nat.zero-mul (up d) in
        let r : 0 < n * down d = mul-pos p (down_pos d) in
        omega (arith, q, r, y)
over m e n nan v p = elim v [ ]
over m e n (inf _) v p = elim v [ ]

part_of : (m : ℕ) (e : ℤ) (n : ℕ) → 0 < n → n ≤ 2 ^ 53 → div binary64 (fin false m e) (float n) ≡ round binary64 false (m * up e) (down e * n)
unfolding of_int
part_of m e n p s = over m e n (round binary64 false n 1) (round_whole binary64 false n s) p

module _ (n : ℕ) (some : 0 < n) (few : n < 2 ^ 16) where
  n_held : n ≤ 2 ^ 53
  n_held = omega arith

  part_sized : {x : Float} (a : ℕ) → a ≤ 900 → 16 ≤ a * n → Up 16 x → Sized a (div binary64 x (float n))
  part_sized a s h (up_to m e l) =
      subst (Sized a) (sym (part_of m e n some n_held))
      (round_sized a false (m * up e) (down e * n) (le_trans s (lit≤ tt)) (mul-pos (down_pos e) some)
      (le_trans l (le_trans (mul-le-mul_right (down e) h) (le_of_eq (mul_right_comm a n (down e) ∙ mul_assoc a (down e) n)))))

  part_small : {x : Float} (i : ℕ) → i ≤ 1000 → 16 * 2 ^ i ≤ n → Up 16 x → Small i (div binary64 x (float n))
  part_small i s h (up_to m e l) =
      subst (Small i) (sym (part_of m e n some n_held))
      (round_small i (m * up e) (down e * n) s (mul-pos (down_pos e) some)
      (le_trans (mul-le-mul_right (2 ^ i) l) (le_trans (le_of_eq (mul_right_comm 16 (down e) (2 ^ i))) (le_trans (mul-le-mul_right (down e) h) (le_of_eq (mul_comm n (down e)))))))

  -- ---- n times some octaves
  times_sized : {x : Float} (a : ℕ) → a * n ≤ 900 → Sized a x → Sized 900 (mul binary64 x (float n))
  times_sized a h (sized s m e l) =
      subst (Sized 900) (sym (times s m e n n_held))
      (round_sized 900 s (m * up e * n) (down e) (lit≤ tt) (down_pos e) (le_trans (mul-le-mul_right n l) (le_trans (le_of_eq (mul_right_comm a (down e) n)) (mul-le-mul_right (down e) h))))

  times_small : {x : Float} (i : ℕ) → n ≤ 900 * 2 ^ i → Small i x → Sized 900 (mul binary64 x (float n))
  times_small i h (small m e l) =
      subst (Sized 900) (sym (times false m e n n_held))
      (round_sized 900 false (m * up e * n) (down e) (lit≤ tt) (down_pos e) (le_trans (mul-le-mul_left (m * up e) h) (le_trans (le_of_eq (mul_left_comm (m * up e) 900 (2 ^ i))) (mul-le-mul_left 900 l))))

-- ---- T_j, with 53 digits, and how many bits of its octaves are clear
t_four : t_of 4 ≤ 4702991017412880 * 2 ^ 10
unfolding t_of root root_from
t_four = lit≤ tt

t_seven : t_of 7 ≤ 4528053727998774 * 2 ^ 10
unfolding t_of root root_from
t_seven = lit≤ tt

t_ten : t_of 10 ≤ 4506649152907471 * 2 ^ 10
unfolding t_of root root_from
t_ten = lit≤ tt

b_four : b_of (4702991017412880 * 2 ^ 10) 3 ≡ 0
unfolding b_of y_of
b_four = refl

b_seven : b_of (4528053727998774 * 2 ^ 10) 6 ≡ 0
unfolding b_of y_of
b_seven = refl

b_ten : b_of (4506649152907471 * 2 ^ 10) 9 ≡ 0
unfolding b_of y_of
b_ten = refl

-- ---- the interval of a segment: 1..2^16
interval_within : (start size : ℕ) → 0 < start → start < 2 ^ 16 → size < 2 ^ 16 → Within 0 16 (interval_of start size)
unfolding of_int
interval_within start size some a b =
    let s = round_whole binary64 false start (omega arith) in
    let z = round_whole binary64 false size (omega arith) in
    rw (sum_of start size (round binary64 false start 1) (round binary64 false size 1) s z)
    (quotient_within 0 16 (start + size) start (round binary64 false (start + size) 1) (round binary64 false start 1) (lit≤ tt) (lit≤ tt) (round_whole binary64 false (start + size) (omega arith)) s some (omega arith) (omega arith))

module _ (start size n : ℕ) (some : 0 < start) (s-small : start < 2 ^ 16) (z-small : size < 2 ^ 16) (pos : 0 < n) (few : n < 2 ^ 16) where
  abbrev interval : Float
  interval = interval_of start size

  within : Within 0 16 interval
  within = interval_within start size some s-small z-small

  reach : in_reach interval ≡ true
  reach = within_reach (within_more (lit≤ tt) (lit≤ tt) within)

  held : fits binary64 interval ≡ true
  held = is_true (fits binary64 interval) (div-fits binary64 (add binary64 (float start) (float size)) (float start))

  abbrev part : Float
  part = div binary64 (log_of interval) (float n)

  part_held : fits binary64 part ≡ true
  part_held = is_true (fits binary64 part) (div-fits binary64 (log_of interval) (float n))

  octaves_up : Up 16 (log_of interval)
  octaves_up = log_up 16 interval (log_of interval) (lit≤ tt) held within (log_gives interval reach)

  -- the part is in E's domain, and E of it is the step
  abbrev pub step : Float
  step = power_of (floor_of part)

  in_powers_law : in_powers part ≡ true
  in_powers_law = sized_powers part (sized_more (lit≤ tt) (part_sized n pos few 16 (lit≤ tt) (omega arith) octaves_up))

  step_is : E part ≡ gives step
  unfolding E
  step_is = rw in_powers_law

  step_within : (a : ℕ) → a ≤ 900 → 16 ≤ a * n → Within a a step
  step_within a s h = exp_within a part step s part_held (part_sized n pos few a s h octaves_up) step_is

  pub step_reach : in_reach step ≡ true
  step_reach = within_reach (within_more (lit≤ tt) (lit≤ tt) (step_within 16 (lit≤ tt) (omega arith)))

  step_said : from_octaves part ≡ gives step
  step_said = ap (λ (x : Said Float). and_then x computed) step_is ∙ rw step_reach

  step_held : fits binary64 step ≡ true
  step_held =
      let t = octaves_ratio 16 part (lit≤ tt) part_held (part_sized n pos few 16 (lit≤ tt) (omega arith) octaves_up) in
      subst (λ (x : Float). fits binary64 x ≡ true) (same_value t.value step (sym t.is ∙ step_said)) t.held

  -- THE STEPS are said
  pub steps_said : steps_of start size (Some n) ≡ gives (Some step)
  steps_said =
      let first : from_float interval ≡ gives interval = rw reach in
      let second : as_octaves interval ≡ gives (log_of interval) = rw reach (log_gives interval reach) in
      ap (λ (s : Said Float). and_then (and_then s (λ ratio. divided_into ratio (float n))) (λ x. gives (Some x))) first
      ∙ ap (λ (s : Said Float). and_then (and_then s (λ octaves. from_octaves (div binary64 octaves (float n)))) (λ x. gives (Some x))) second
      ∙ ap (λ (s : Said Float). and_then s (λ x. gives (Some x))) step_said

  -- ---- n of them
  coarse : (a : ℕ) → a ≤ 900 → 16 ≤ a * n → a * n ≤ 900 → Sized 900 (mul binary64 (log_of step) (float n))
  coarse a s h l = times_sized n pos few a l (log_sized a step (log_of step) s step_held (step_within a s h) (log_gives step step_reach))

  fine : (i j D : ℕ) → i ≤ 52 → j ≤ 50 → 16 * 2 ^ suc j ≤ n → n ≤ 900 * 2 ^ i → t_of j ≤ D * 2 ^ 10 → D < 2 ^ 53 → b_of (D * 2 ^ 10) i ≡ 0 → Sized 900 (mul binary64 (log_of step) (float n))
  fine i j D si sj low high t size b =
      let p = exp_small j part step sj part_held (part_small n pos few (suc j) (let q : suc j ≤ 1000 = omega (arith, sj) in q) low octaves_up) step_is in
      times_small n pos few i high (log_small i j D step (log_of step) si step_held p t size b (log_gives step step_reach))

  pub steps_in_powers : in_powers (mul binary64 (log_of step) (float n)) ≡ true
  steps_in_powers = sized_powers (mul binary64 (log_of step) (float n)) (first (dec_le n 56))
    where
      fourth : Dec (n ≤ 57600) → 7200 < n → Sized 900 (mul binary64 (log_of step) (float n))
      fourth (yes h) l = fine 6 7 4528053727998774 (lit≤ tt) (lit≤ tt) (omega (arith, l)) (omega (arith, h)) t_seven (lit< tt) b_seven
      fourth (no h) l = let g = lt_of_not-le h in fine 9 10 4506649152907471 (lit≤ tt) (lit≤ tt) (omega (arith, g)) (omega arith) t_ten (lit< tt) b_ten

      third : Dec (n ≤ 7200) → 900 < n → Sized 900 (mul binary64 (log_of step) (float n))
      third (yes h) l = fine 3 4 4702991017412880 (lit≤ tt) (lit≤ tt) (omega (arith, l)) (omega (arith, h)) t_four (lit< tt) b_four
      third (no h) l = fourth (dec_le n 57600) (lt_of_not-le h)

      second : Dec (n ≤ 900) → 56 < n → Sized 900 (mul binary64 (log_of step) (float n))
      second (yes h) l = coarse 1 (lit≤ tt) (omega (arith, l)) (omega (arith, h))
      second (no h) l = third (dec_le n 7200) (lt_of_not-le h)

      first : Dec (n ≤ 56) → Sized 900 (mul binary64 (log_of step) (float n))
      first (yes h) = coarse 16 (lit≤ tt) (omega arith) (omega (arith, h))
      first (no h) = second (dec_le n 900) (lt_of_not-le h)
