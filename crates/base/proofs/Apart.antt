-- A contract leaves one result where what is said can be taken back to the answer that said it. Assumes nothing.
use mathlib.Core.Path.{◌≡◌, sym, ◌∙◌, ap}
use Rattle.base.specs.Said.{One}

pub one_back : {A B : Type 0} (says : A → B) (back : B → A) → ((x : A) → back (says x) ≡ x) → (s : B) → One says s
one_back says back same s x y p q = sym (same x) ∙ ap back (p ∙ sym q) ∙ same y
