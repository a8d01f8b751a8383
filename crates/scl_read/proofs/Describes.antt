-- The laws of the search for the description: past a line without content, and at the first one with it. Assumes nothing.
use mathlib.Core.Path.{◌≡◌, refl, sym, ◌∙◌, ap}
use mathlib.Core.List.{List, ◌∷◌}
use Prim.Native.Nat.{ℕ, ◌≤◌, ◌<◌}
use lib.ListN.{length, drop}
use Rattle.text.proofs.Placed.{placed_turn, placed_end}
use Rattle.text.specs.Cut.{cut}
use Rattle.text.specs.Placed.{placed_from}
use Rattle.text.specs.ReadLine.{strictly, line_of}
use Rattle.text.specs.declared.line.LineSays.{LineSays}
use Rattle.text.specs.declared.line.LineSays.TheVariants.{NotUtf8, Blank, Comment, Content}
use Rattle.text.specs.declared.lines.Ends.{Ends}
use Rattle.scl_read.specs.Reader.{first_content, description_in}

-- the description is the first part that is content, from a place on
abbrev pub Ahead : List ℕ → ℕ → Type 0
Ahead text at = description_in text ≡ first_content (placed_from at (drop at text))

pub ahead_start : (text : List ℕ) → Ahead text 0
unfolding description_in
ahead_start text = refl

module _ (text : List ℕ) (at : ℕ) (v : Ahead text at) where
  pub ahead_end : length text ≤ at → record { start = 0; end = 0 } ≡ description_in text
  ahead_end h = sym (v ∙ ap first_content (placed_end text at h))

  module _ (h : at < length text) {l : Ends} (e : l ≡ cut at (drop at text)) {r : LineSays} (q : r ≡ line_of strictly text at l.end) where
    turned : description_in text ≡ first_content (r ∷ placed_from l.next (drop l.next text))
    turned = v ∙ ap first_content (placed_turn text at h e ∙ ap (λ (x : LineSays). x ∷ placed_from l.next (drop l.next text)) (sym q))

    pub past_invalid : r ≡ NotUtf8 → Ahead text l.next
    past_invalid p = turned ∙ rw p

    pub past_blank : r ≡ Blank → Ahead text l.next
    past_blank p = turned ∙ rw p

    pub past_comment : r ≡ Comment → Ahead text l.next
    past_comment p = turned ∙ rw p

    pub at_content : {a z t : ℕ} → r ≡ Content a z t → record { start = a; end = z } ≡ description_in text
    at_content p = sym (turned ∙ rw p)
