-- How many turns a sift takes: its measure, which falls with each turn, is at most 17 for 65,536 entries. Assumes nothing.
use mathlib.Core.Path.{◌≡◌, ap}
use mathlib.Core.Logic.{inl, inr}
use Prim.Native.Nat.{ℕ, zero, suc, ◌+◌, ◌*◌, ◌≤◌, ◌<◌}
use native.Mathlib.Nat.{not-suc-le-zero}
use native.Mathlib.Omega.{arith}
use lib.Dec.{ltb}
use borrow.Author.Tests.{ltb-true, lt-ltb, le-ltb}
use Rattle.base.specs.Said.{pick}
use Rattle.base.proofs.Integers.{bool_cases}

-- how often i can go to its first child before it leaves the first k; f is enough where k ≤ i + f
abbrev pub reach : ℕ → ℕ → ℕ → ℕ
reach k zero i = 0
reach k (suc f) i = pick (ltb i k) (suc (reach k f (2 * i + 1))) 0

falls : (k f i j : ℕ) → i ≤ j → reach k f j ≤ reach k f i
falls k zero i j h = omega arith
falls k (suc f) i j h = elim (bool_cases (ltb j k)) [
  | inl e ↦
      let l : i < k = omega (arith, ltb-true j k e) in
      let r = falls k f (2 * i + 1) (2 * j + 1) (omega arith) in
      simp (e, lt-ltb i k l) (omega (arith, r))
  | inr e ↦ simp e (omega arith)
]

enough : (k f i : ℕ) → k ≤ i + f → reach k (suc f) i ≡ reach k f i
enough k zero i h = simp (le-ltb i k (omega arith))
enough k (suc f) i h = elim (bool_cases (ltb i k)) [
  | inl e ↦ simp e (ap suc (enough k f (2 * i + 1) (omega arith)))
  | inr e ↦ simp e
]

deeper : (k f i c : ℕ) → k ≤ suc f → i < k → 2 * i + 1 ≤ c → reach k (suc f) c < reach k (suc f) i
deeper k f i c h l d =
    let a = falls k (suc f) (2 * i + 1) c d in
    let b = enough k f (2 * i + 1) (omega arith) in
    let e : reach k (suc f) i ≡ suc (reach k f (2 * i + 1)) = simp (lt-ltb i k l) in
    omega (arith, a, b, e)

pub reach_falls : (k i c : ℕ) → i < k → 2 * i + 1 ≤ c → reach k k c < reach k k i
reach_falls zero i c l d = absurd (not-suc-le-zero l)
reach_falls (suc k) i c l d = deeper (suc k) k i c (omega arith) l d

-- m doubled b times
abbrev doubled : ℕ → ℕ → ℕ
doubled zero m = m
doubled (suc b) m = doubled b (2 * m)

reach_below : (k f b i : ℕ) → k < doubled b (i + 1) → reach k f i ≤ b
reach_below k zero b i h = omega arith
reach_below k (suc f) zero i h = simp (le-ltb i k (omega arith)) (omega arith)
reach_below k (suc f) (suc b) i h = elim (bool_cases (ltb i k)) [
  | inl e ↦
      let q : 2 * (i + 1) ≡ (2 * i + 1) + 1 = omega arith in
      let r = reach_below k f b (2 * i + 1) (rw q at h) in
      simp e (omega (arith, r))
  | inr e ↦ simp e (omega arith)
]

-- of at most 65,536 entries, a sift of any takes at most 17 turns
pub turns : (k s : ℕ) → k ≤ 65536 → reach k k s ≤ 17
turns k s h =
    let top : reach k k 0 ≤ 17 = reach_below k k 17 0 (omega arith) in
    omega (arith, top, falls k k 0 s (omega arith))
