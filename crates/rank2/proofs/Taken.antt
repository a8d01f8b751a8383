-- What holds of the value that is taken from an answer, or else of the one that stands for a refusal. Assumes nothing.
use Rattle.std.specs.Prelude.{◌≡◌, Result, Ok, Err}
use Rattle.std.specs.Result.{result_unwrap_or}
use mathlib.Core.Path.{sym, subst}
use Rattle.base.specs.Said.{Said}
use Rattle.base.specs.declared.Refusal.{Refusal}

pub taken_either : {A B : Type 0} (says : Result A Refusal → Said B) (P : A → Type 0) (r : Result A Refusal) (d : A) {y : A} {s : Said B}
    → says r ≡ s → y ≡ result_unwrap_or r d → ((a : A) → says (Ok a) ≡ s → P a) → ((why : Refusal) → says (Err why) ≡ s → P d) → P y
taken_either says P (Ok a) d h m f g = subst P (sym m) (f a h)
taken_either says P (Err why) d h m f g = subst P (sym m) (g why h)
