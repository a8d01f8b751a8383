-- `build_entries` meets its contract: what the columns got, and the same entries in the list of structs. No loop.
use Rattle.std.proofs.Common.{ℕ, ◌∙◌, ap}
use Rattle.base.specs.Tables.{over}
use Rattle.sorted.specs.Lent.{list_table}
use Rattle.entries.specs.Entries.{as_entries, first_of}
use Rattle.entries.proofs.build_entries.Goals as goal

pub store_list-requires : goal.store_list-requires
store_list-requires c =
    let h = c.build_columns-answer.ensures.2 in
    rw c.stored_of-n.ensures (h.list_room, h.places_room, h.ratios_room, h.wraps_room)

pub returns : goal.returns
returns c =
    let built = c.build_columns-answer in
    let old = as_entries c.args.list.now in (
      built.ensures.0,
      built.ensures.1,
      c.store_list.ensures
          ∙ ap (λ (i : ℕ). over old (first_of i (list_table built.new.place built.new.ratio built.new.wraps))) c.stored_of-n.ensures
          ∙ built.ensures.2.stored old,
    )
