-- From what was scanned to the answer. Assumes nothing.
use Rattle.std.specs.Prelude.{None, Some, Option, Ok, Err}
use Rattle.std.proofs.Common.{◌≡◌, ℕ, ◌^◌, ◌<◌, ◌≤◌, Bool, true, false, leb, List, sym, refl, ap, ◌∙◌, arith, le-leb, leb-true}
use lib.Ieee.{Float}
use borrow.Author.Tests.{lt-leb}
use Rattle.base.specs.Said.{pick}
use Rattle.numerals.specs.Scan.{scan_of}
use Rattle.numerals.specs.declared.Numeral.{Numeral}
use Rattle.numerals.proofs.Small.{scan_small}
use Rattle.decimals.specs.DecimalScan.{supported, valued, judged, read_decimal}
use Rattle.decimals.specs.declared.DecimalError.TheVariants as answer

-- what `supported` says of a numeral
pub record Supported (x : Numeral) : Type 0 where
  pub plain : x.plain ≡ true
  pub few : x.significant ≤ 18
  pub near : x.places ≤ 18

pub supported_says : (x : Numeral) → supported x ≡ true → Supported x
supported_says x e = go x.plain refl (leb x.significant 18) refl e
  where
    go : (p : Bool) → x.plain ≡ p → (q : Bool) → leb x.significant 18 ≡ q → pick p (pick q (leb x.places 18) false) false ≡ true → Supported x
    go true a true b h = record { plain = a; few = leb-true x.significant 18 b; near = leb-true x.places 18 h }
    go true a false b h = let z : ◌≡◌ {A = ℕ} 0 1 = cc in absurd (omega arith)
    go false a q b h = let z : ◌≡◌ {A = ℕ} 0 1 = cc in absurd (omega arith)

-- the ways of the code through the three tests
pub plain_few : (x : Numeral) → x.plain ≡ true → x.significant ≤ 18 → leb x.places 18 ≡ supported x
plain_few x p h = rw (p, le-leb x.significant 18 h)

pub plain_long : (x : Numeral) → x.plain ≡ true → 18 < x.significant → false ≡ supported x
plain_long x p h = rw (p, lt-leb x.significant 18 h)

pub not_plain : (x : Numeral) → x.plain ≡ false → false ≡ supported x
not_plain x p = rw p

-- r is what a call of `scan` answered, and x what it holds
module _ (s : List ℕ) {r : (Option Numeral)} (e : r ≡ scan_of s) where
  pub told_bad : r ≡ None → (Err answer.Bad) ≡ read_decimal s
  unfolding read_decimal
  told_bad f = ap judged (sym f ∙ e)

  module _ {x : Numeral} (f : r ≡ Some x) where
    pub told_small : x.n < 10 ^ 18
    told_small = let g : scan_of s ≡ Some x = sym e ∙ f in rw g at (scan_small s)

    pub told_left : supported x ≡ false → (Err answer.Unsupported) ≡ read_decimal s
    unfolding read_decimal
    told_left h = let g : scan_of s ≡ Some x = sym e ∙ f in rw (g, h)

    pub told_value : supported x ≡ true → {v : Float} → v ≡ valued x → Ok v ≡ read_decimal s
    unfolding read_decimal
    told_value h k = let g : scan_of s ≡ Some x = sym e ∙ f in rw (g, h) (ap Ok k)
