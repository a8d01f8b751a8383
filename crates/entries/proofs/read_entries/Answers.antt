-- `read_entries` meets its contract: what the columns got, and the same entries in the list of structs. No loop.
use Rattle.std.proofs.Common.{ℕ, ◌∙◌, ap}
use Rattle.base.specs.Tables.{over}
use Rattle.sorted.specs.Lent.{list_table}
use Rattle.entries.specs.Entries.{as_entries, first_of}
use Rattle.entries.proofs.read_entries.Goals as goal

pub store_list-requires : goal.store_list-requires
store_list-requires c =
    let h = c.read_columns-answer.ensures.3 in
    rw c.stored_of_read-n.ensures (h.list_room, h.places_room, h.ratios_room, h.wraps_room)

pub returns : goal.returns
returns c =
    let read = c.read_columns-answer in
    let old = as_entries c.args.list.now in (
      read.ensures.0,
      read.ensures.1,
      read.ensures.2,
      c.store_list.ensures
          ∙ ap (λ (i : ℕ). over old (first_of i (list_table read.new.place read.new.ratio read.new.wraps))) c.stored_of_read-n.ensures
          ∙ read.ensures.3.stored old,
    )
