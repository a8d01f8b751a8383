-- `read_decimal` meets its contract: the scan, then what is taken, then its value.
-- Each return cites the law for what `scan` answered.
use Rattle.std.proofs.Common.{sym, ◌∙◌}
use Rattle.decimals.proofs.Answers.{supported_says, told_bad, told_small, told_left, told_value}
use Rattle.decimals.proofs.read_decimal.Goals as goal

pub returns-in_default : goal.returns-in_default
returns-in_default c = told_bad _ c.scan.ensures c.in_default.is

pub signed_decimal-requires : goal.signed_decimal-requires
signed_decimal-requires c = (told_small _ c.scan.ensures c.in-Some.is, (supported_says c.in-Some.x (sym c.is_supported.ensures ∙ c.if-not-is_supported.false)).near)

pub returns : goal.returns
returns c = told_value _ c.scan.ensures c.in-Some.is (sym c.is_supported.ensures ∙ c.if-not-is_supported.false) c.signed_decimal.ensures

pub returns-then-not-is_supported : goal.returns-then-not-is_supported
returns-then-not-is_supported c = told_left _ c.scan.ensures c.in-Some.is (sym c.is_supported.ensures ∙ c.if-not-is_supported.true)
