-- Each call on notes has one result. Assumes nothing.
use mathlib.Core.Path.{sym, ◌∙◌}
use Prim.Native.Nat.{ℕ}
use lib.Ieee.{Float}
use Rattle.base.specs.Said.{Said, gives, One}
use Rattle.base.proofs.Said.{same_value}
use Rattle.pitch.specs.Ratios.{as_cents}
use Rattle.rank2.specs.Notes.{note_at, pitch_at, ratios_from, highest_from}

given_once : {A : Type 0} (s : Said A) → One gives s
given_once s x y p q = same_value x y (p ∙ sym q)

pub cents_of_one : (ratio : Float) → One gives (as_cents ratio)
cents_of_one ratio = given_once (as_cents ratio)

pub note_at_one : (generator period : Float) (positive i : ℕ) → One gives (note_at generator period positive i)
note_at_one generator period positive i = given_once (note_at generator period positive i)

pub highest_one : (ratio generator period : Float) (positive n : ℕ) → One gives (highest_from (pitch_at ratio generator period positive) 0 n)
highest_one ratio generator period positive n = given_once (highest_from (pitch_at ratio generator period positive) 0 n)

pub fill_one : (ratio generator period : Float) (positive n : ℕ) → One gives (ratios_from (pitch_at ratio generator period positive) 0 n)
fill_one ratio generator period positive n = given_once (ratios_from (pitch_at ratio generator period positive) 0 n)
