-- `write_item` meets its contract, case by case.
-- Assumes nothing.
use Prim.Native.Nat.{ℕ}
use Rattle.std.specs.Prelude.{Some, None, Option}
use mathlib.Core.Path.{◌≡◌, ap, ◌∙◌}
use mathlib.Core.Bool.{true}
use Prim.Native.Nat.{◌+◌, ◌≤◌}
use native.Mathlib.Omega.{arith}
use lib.Dec.{lit≤}
use lib.ListN.{length}
use Rattle.writing.specs.Lines.{line}
use Rattle.writing.proofs.Lines.{length_number}
use Rattle.scl.specs.Items.{is_usable}
use Rattle.scl.specs.declared.Item.{Item}
use Rattle.scl.specs.declared.Item.TheVariants.{Cents, Fraction}
use Rattle.scl_write.specs.Export.{item_text}
use Rattle.scl_write.proofs.ItemLines.{cents_limited, fraction_length, fraction_sets}
use Rattle.base.proofs.Clauses.{as_pair}
use Rattle.base.proofs.Clauses.{value_and_out}
use Rattle.scl_write.proofs.write_item.Goals as goal
use Rattle.scl_write.proofs.write_item.Goals.{In-Cents, In-Some, In-None, Start}

-- what is promised, of the item as its case tells it
told : (c : Start) (i : Item) → c.args.item ≡ i → (is_usable i ≡ true) × (c.args.at + length (line (item_text i)) ≤ length c.args.out.now)
told c i e = rw e at c.requires

-- the item where it is cents, a fraction, an integer
cents_is : (c : In-Cents) → c.args.item ≡ Cents c.in-Cents.cents
cents_is c = c.in-Cents.is

given_is : (c : In-Some) → c.args.item ≡ Fraction c.in-Fraction.numer (Some c.in-Some.number)
given_is c =
    c.in-Fraction.is ∙ ap (λ (d : (Option ℕ)). Fraction c.in-Fraction.numer d) c.in-Some.is

lacking_is : (c : In-None) → c.args.item ≡ Fraction c.in-Fraction.numer None
lacking_is c =
    c.in-Fraction.is ∙ ap (λ (d : (Option ℕ)). Fraction c.in-Fraction.numer d) c.in-None.is

pub write_decimal-requires : goal.write_decimal-requires
write_decimal-requires c =
    let t = told (goal.at.write_decimal-requires c).Start (Cents c.in-Cents.cents) (cents_is (goal.at.write_decimal-requires c).In-Cents) in
    (cents_limited c.in-Cents.cents t.0, lit≤ tt, t.1)

pub write_number-next-requires : goal.write_number-next-requires
write_number-next-requires c = omega (arith, (told (goal.at.write_number-next-requires c).Start (Fraction c.in-Fraction.numer (Some c.in-Some.number)) (given_is (goal.at.write_number-next-requires c).In-Some)).1, fraction_length c.in-Fraction.numer c.in-Some.number, length_number c.in-Fraction.numer 47)

pub write_number-requires : goal.write_number-requires
write_number-requires c = omega (arith, (told (goal.at.write_number-requires c).Start (Fraction c.in-Fraction.numer (Some c.in-Some.number)) (given_is (goal.at.write_number-requires c).In-Some)).1, fraction_length c.in-Fraction.numer c.in-Some.number, length_number c.in-Fraction.numer 47, length_number c.in-Some.number 10, c.write_number-next.ensures.value)

pub write_number-requires-in-None : goal.write_number-requires-in-None
write_number-requires-in-None c = (told (goal.at.write_number-requires-in-None c).Start (Fraction c.in-Fraction.numer None) (lacking_is (goal.at.write_number-requires-in-None c).In-None)).1

pub returns-in-Cents : goal.returns-in-Cents
returns-in-Cents c =
    value_and_out
    (rw (cents_is (goal.at.returns-in-Cents c).In-Cents) (as_pair c.write_decimal.ensures))

pub returns-in-Some : goal.returns-in-Some
returns-in-Some c =
    record {
      value = rw (given_is (goal.at.returns-in-Some c).In-Some) (omega (arith, c.write_number-next.ensures.value, c.write_number.ensures.value, fraction_length c.in-Fraction.numer c.in-Some.number, length_number c.in-Fraction.numer 47, length_number c.in-Some.number 10));
      out_after = rw (given_is (goal.at.returns-in-Some c).In-Some) (fraction_sets c.in-Fraction.numer c.in-Some.number c.args.out.now c.write_number-next.new.out c.write_number.new.out c.args.at c.write_number-next.result c.write_number-next.ensures.out_after c.write_number-next.ensures.value c.write_number.ensures.out_after);
    }

pub returns-in-None : goal.returns-in-None
returns-in-None c =
    value_and_out
    (rw (lacking_is (goal.at.returns-in-None c).In-None) (as_pair c.write_number-in-None.ensures))
