-- What stands in the four columns for an item: "What a kind does not use is stored as 0". Assumes nothing.
use Rattle.scl.specs.Table.{kind_of, cents_of, numer_of, denom_at}
use Rattle.scl.specs.declared.Item.{Item}
use Rattle.scl_tables.specs.declared.Stored.{Stored}

abbrev pub stored_of : Item → Stored
stored_of item = record { kind = kind_of item; cents = cents_of item; numer = numer_of item; denom = denom_at item }
