-- The library's names asked for one by one.
use Rattle.std.proofs.Common.{◌≡◌, ℕ, Bool, true, false, ◌||◌, List, [], ◌∷◌, refl, ap, ◌∙◌}
use Rattle.std.specs.List.{list_any}
use Rattle.meaning.specs.Lists.{pick}
use Rattle.meaning.specs.Names.{Name, same, member}
use Rattle.text_names.specs.Word.{name_of}
use Rattle.read_known.specs.Known.{named_so}

or_pick : (a b : Bool) → (a || b) ≡ pick a true b
unfolding pick
or_pick true b = refl
or_pick false b = refl

pub known_any : (n : Name) (library heads : List ℕ) → list_any (λ v. same n (name_of library v)) heads ≡ member n (named_so library heads)
unfolding named_so member
known_any n library [] = refl
known_any n library (v ∷ vs) =
    ap (λ (b : Bool). same n (name_of library v) || b) (known_any n library vs) ∙ or_pick (same n (name_of library v)) (member n (named_so library vs))
