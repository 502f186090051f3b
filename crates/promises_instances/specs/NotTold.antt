-- What a listing does not tell, computed: the module and the position of an equation, and the module of a parameter without items. All else
-- can be told from it (promises/OneListing).
use Rattle.std.specs.Prelude.{◌≡◌, refl, ℕ, List, [], ◌∷◌, ◌++◌, map}
use Rattle.meaning.specs.Names.{bytes, Name}
use Rattle.meaning.specs.Origins.{ResolvedEquation}
use Rattle.meaning.specs.Normal.{Slot, Normal}
use Rattle.meaning.specs.Numbers.{memory_size, program_output}
use Rattle.meaning.specs.Texts.{Texts, two_texts, Reading, all_read, refused_in, read_texts}
use Rattle.meaning.specs.Reached.{Ended, normalised, refused_at, normalise}
use Rattle.meaning.specs.Answer.{listing, answer}
use Rattle.meaning.specs.Opened.{all_opened}

-- ---- to which module an equation belongs, and its position there. Below, `f` stands in N1 in the one
-- specification and in N2 in the other; M has two different normal forms, with one listing

unfoldable pub one_pair : Texts
one_pair =
    two_texts []
    (bytes "module M0 begin exports begin sorts A functions a : -> A end end M0\n"
    ++ (bytes "module N1 begin imports M0 equations [e] a = a [f] a = a end N1\n"
    ++ (bytes "module N2 begin imports M0 equations [g] a = a end N2\n" ++ bytes "module M begin imports N1, N2 end M")))

unfoldable pub other_pair : Texts
other_pair =
    two_texts []
    (bytes "module M0 begin exports begin sorts A functions a : -> A end end M0\n"
    ++ (bytes "module N1 begin imports M0 equations [e] a = a end N1\n"
    ++ (bytes "module N2 begin imports M0 equations [f] a = a [g] a = a end N2\n" ++ bytes "module M begin imports N1, N2 end M")))

in_ended : {A : Type 0} → (Normal → List A) → Ended → List A
in_ended f (normalised count n) = f n
in_ended f (refused_at number count m w) = []

in_read : {A : Type 0} → (Normal → List A) → Reading → List A
in_read f (all_read ms) = in_ended f (normalise (bytes "M") ms)
in_read f (refused_in l number at) = []

homes : Texts → List ℕ
homes texts = in_read (λ n. map (λ (e : ResolvedEquation). e.module_number) n.hidden.equations) (read_texts texts)

homes_differ : (homes one_pair ≡ 1 ∷ 1 ∷ 2 ∷ []) × (homes other_pair ≡ 1 ∷ 2 ∷ 2 ∷ [])
unfolding all_opened homes in_read in_ended one_pair other_pair
homes_differ = (refl, refl)

pub not_told : listing (answer memory_size program_output (bytes "M") one_pair) ≡ listing (answer memory_size program_output (bytes "M") other_pair)
unfolding all_opened one_pair other_pair
not_told = refl

-- nor does it tell which module declares a parameter without items: P is A's in the one specification and B's in the other

unfoldable pub a_parameter : Texts
a_parameter = two_texts [] (bytes "module A begin parameters P begin end P end A module B begin end B module M begin imports A, B end M")

unfoldable pub b_parameter : Texts
b_parameter = two_texts [] (bytes "module A begin end A module B begin parameters P begin end P end B module M begin imports A, B end M")

declaring : Texts → List Name
declaring texts = in_read (λ n. map (λ (p : Slot). p.home) n.visible.parameters) (read_texts texts)

declared_apart : (declaring a_parameter ≡ bytes "A" ∷ []) × (declaring b_parameter ≡ bytes "B" ∷ [])
unfolding all_opened declaring in_read in_ended a_parameter b_parameter
declared_apart = (refl, refl)

pub home_not_told : listing (answer memory_size program_output (bytes "M") a_parameter) ≡ listing (answer memory_size program_output (bytes "M") b_parameter)
unfolding all_opened a_parameter b_parameter
home_not_told = refl
