-- For each input, refused ones too, `read_decimal` has one possible result: document 01, "What the contracts settle". Assumes nothing.
use Rattle.std.specs.Prelude.{Ok, Err, Result, Float}
use Rattle.std.proofs.Common.{◌≡◌, ℕ, List, refl, arith}
use Rattle.base.specs.Said.{One}
use Rattle.base.proofs.Said.{one_result}
use Rattle.decimals.specs.DecimalScan.{read_decimal}
use Rattle.decimals.specs.Answers.{says_decimal}
use Rattle.decimals.specs.declared.DecimalError.{DecimalError}
use Rattle.decimals.specs.declared.DecimalError.TheVariants.{Unsupported, Bad}

pub read_decimal_one : (s : List ℕ) → One (λ r. r) (read_decimal s)
read_decimal_one s = one_result (read_decimal s)

-- what an answer says determines the answer, where no numeral has another number than 9
pub decimal_apart : (bad line : ℕ) → (bad ≡ 9 → ⊥) → (x y : (Result Float DecimalError)) → says_decimal bad line x ≡ says_decimal bad line y → x ≡ y
decimal_apart bad line h (Ok v) (Ok w) e = let z : v ≡ w = cc in rw z
decimal_apart bad line h (Ok v) (Err Unsupported) e = let z : ◌≡◌ {A = ℕ} 0 1 = cc in absurd (omega arith)
decimal_apart bad line h (Ok v) (Err Bad) e = let z : ◌≡◌ {A = ℕ} 0 1 = cc in absurd (omega arith)
decimal_apart bad line h (Err Unsupported) (Ok w) e = let z : ◌≡◌ {A = ℕ} 0 1 = cc in absurd (omega arith)
decimal_apart bad line h (Err Unsupported) (Err Unsupported) e = refl
decimal_apart bad line h (Err Unsupported) (Err Bad) e = let z : bad ≡ 9 = cc in absurd (h z)
decimal_apart bad line h (Err Bad) (Ok w) e = let z : ◌≡◌ {A = ℕ} 0 1 = cc in absurd (omega arith)
decimal_apart bad line h (Err Bad) (Err Unsupported) e = let z : bad ≡ 9 = cc in absurd (h z)
decimal_apart bad line h (Err Bad) (Err Bad) e = refl
