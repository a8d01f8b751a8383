-- `read_signed` answers the sign and the size: one law for each way out, with what `read_magnitude` answered.
-- No loop.
use mathlib.Core.Path.{refl}
use Rattle.integers.proofs.Scan.{int_none, int_unsigned, int_minus, int_plus, int_plain}
use Rattle.integers.proofs.read_signed.Goals as goal

pub returns-in_err-first : goal.returns-in_err-first
returns-in_err-first c = int_none _ _ _ c.in_err-first.ensures.item.3 c.from_residual.ensures

pub returns-in_err-read_magnitude : goal.returns-in_err-read_magnitude
returns-in_err-read_magnitude c =
    let f = c.in_ok-first.ensures.item.3 in
    int_minus _ _ _ f.0 (f.1 0) c.if-first-eq45.true c.if-signed.true c.in_err-read_magnitude.ensures c.from_residual-in_err-read_magnitude.ensures

pub returns-then-signed : goal.returns-then-signed
returns-then-signed c =
    let f = c.in_ok-first.ensures.item.3 in
    int_minus _ _ _ f.0 (f.1 0) c.if-first-eq45.true c.if-signed.true c.in_ok-read_magnitude.ensures refl

pub returns-then-first-eq45 : goal.returns-then-first-eq45
returns-then-first-eq45 c =
    let f = c.in_ok-first.ensures.item.3 in
    int_unsigned _ _ _ f.0 (f.1 0) c.if-first-eq45.true c.if-signed.false

pub returns-in_err-read_magnitude-2 : goal.returns-in_err-read_magnitude-2
returns-in_err-read_magnitude-2 c =
    let f = c.in_ok-first.ensures.item.3 in
    int_plus _ _ _ f.0 (f.1 0) c.if-first-eq45.false c.if-first-eq43.true c.in_err-read_magnitude-2.ensures c.from_residual-in_err-read_magnitude-2.ensures

pub returns-then-first-eq43 : goal.returns-then-first-eq43
returns-then-first-eq43 c =
    let f = c.in_ok-first.ensures.item.3 in
    int_plus _ _ _ f.0 (f.1 0) c.if-first-eq45.false c.if-first-eq43.true c.in_ok-read_magnitude-2.ensures refl

pub returns-in_err-read_magnitude-3 : goal.returns-in_err-read_magnitude-3
returns-in_err-read_magnitude-3 c =
    let f = c.in_ok-first.ensures.item.3 in
    int_plain _ _ _ f.0 (f.1 0) c.if-first-eq45.false c.if-first-eq43.false c.in_err-read_magnitude-3.ensures c.from_residual-in_err-read_magnitude-3.ensures

pub returns : goal.returns
returns c =
    let f = c.in_ok-first.ensures.item.3 in
    int_plain _ _ _ f.0 (f.1 0) c.if-first-eq45.false c.if-first-eq43.false c.in_ok-read_magnitude-3.ensures refl
