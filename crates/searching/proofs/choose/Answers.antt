-- `choose` meets its contract: the definition, opened at its tests.
use mathlib.Core.Path.{◌∙◌, ap, sym}
use mathlib.Core.Bool.{true}
use Rattle.std.proofs.lemmas.Result.{err_from_is_err_and}
use Rattle.base.specs.Said.{Said, gives, and_then}
use Rattle.searching.specs.Search.{choice}
use Rattle.searching.proofs.Opened.{chosen_beyond, chosen_lower, chosen_upper}
use Rattle.searching.proofs.choose.Goals as goal

pub returns-then-not-are_in_reach : goal.returns-then-not-are_in_reach
returns-then-not-are_in_reach c =
    chosen_beyond _ _ _ c.requires.0 c.requires.1 c.requires.2 (sym c.are_in_reach.ensures ∙ c.if-not-are_in_reach.true)

pub returns-then-bound-up : goal.returns-then-bound-up
returns-then-bound-up c =
    chosen_lower _ _ _ c.requires.0 c.requires.1 c.requires.2 (sym c.are_in_reach.ensures ∙ c.if-not-are_in_reach.false)
    c.if-bound-up.true

pub returns-in_err-turned : goal.returns-in_err-turned
returns-in_err-turned c =
    let why = err_from_is_err_and c.from_residual.result c.from_residual.ensures.1 in
    rw (why.1, why.2)
    (ap (λ (s : Said _). and_then s (λ turned. gives (choice true turned))) c.in_err-turned.ensures
    ∙ chosen_upper _ _ _ c.requires.0 c.requires.1 c.requires.2 (sym c.are_in_reach.ensures ∙ c.if-not-are_in_reach.false)
    c.if-bound-up.false)

pub returns : goal.returns
returns c =
    ap (λ (s : Said _). and_then s (λ turned. gives (choice true turned))) c.in_ok-turned.ensures
    ∙ chosen_upper _ _ _ c.requires.0 c.requires.1 c.requires.2 (sym c.are_in_reach.ensures ∙ c.if-not-are_in_reach.false)
    c.if-bound-up.false
