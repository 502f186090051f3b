-- The premises of the replacement can be met: an operator that is declared, used in terms, renamed and bound, and the same texts with a plain
-- function in its place; what both listings are; and why depth is among the sizes.
use Rattle.std.specs.Prelude.{◌≡◌, refl, ℕ, zero, suc, false, List, [], ◌++◌}
use Rattle.std.proofs.Common.{arith}
use Rattle.meaning.specs.Names.{bytes}
use Rattle.meaning.specs.Numbers.{memory_size, program_output, accepted, over_size}
use Rattle.meaning.specs.Syntax.{Module}
use Rattle.meaning.specs.Texts.{Texts, two_texts, refused_in, read_texts}
use Rattle.meaning.specs.Answer.{listing, answer}
use Rattle.meaning.specs.Opened.{all_opened}
use Rattle.promises_instances.specs.Instance.{modules_in}
use Rattle.promises_replacing.specs.Changing.{changing_opened}
use Rattle.promises_replacing.specs.Replacing.{replace, Replaced, SameApart}
use Rattle.promises_replacing.proofs.Replaced.{replaced_answer}

-- ---- two pairs of texts. The library's X exports the operator; S has it in a parameter, which M binds to X; H hides one of that name

unfoldable pub with_operator : Texts
with_operator = two_texts (bytes "module X begin exports begin sorts A functions a:->A _ + _ : A # A -> A end functions -_:A->A equations [e] -a + a = a [f] a + (a + a) = a end X") (bytes "module S begin parameters P begin sorts T functions _+_:T#T->T end P functions d:T->T variables t:->T equations [i] d(t) + t = t end S module H begin sorts B functions b:->B _+_:B#B->B equations [h] b + b = b end H module M begin imports S { P bound by [T->A, _+_->_+_] to X }, X { renamed by [_+_->_*_] }, H end M")

unfoldable pub with_function : Texts
with_function = two_texts (bytes "module X begin exports begin sorts A functions a:->A plus : A # A -> A end functions -_:A->A equations [e] plus(-a, a) = a [f] plus(a, plus(a, a)) = a end X") (bytes "module S begin parameters P begin sorts T functions plus:T#T->T end P functions d:T->T variables t:->T equations [i] plus(d(t), t) = t end S module H begin sorts B functions b:->B plus:B#B->B equations [h] plus(b, b) = b end H module M begin imports S { P bound by [T->A, plus->plus] to X }, X { renamed by [plus->_*_] }, H end M")

abbrev pub its_modules : List Module
its_modules = modules_in (read_texts with_operator)

pub replaced : Replaced (bytes "_+_") (bytes "plus") with_operator with_function its_modules
unfolding all_opened changing_opened modules_in with_operator with_function replace
replaced = record { is_one = refl; is_none = refl; fresh = refl; read_as = record { reads = refl }; read_as' = record { reads = refl } }

-- ---- so the answers agree

pub operator_accepted : (answer memory_size program_output (bytes "M") with_operator).number ≡ accepted
unfolding all_opened with_operator
operator_accepted = refl

pub same_apart : SameApart (bytes "_+_") (bytes "plus") (bytes "M") program_output (answer memory_size program_output (bytes "M") with_operator) (answer memory_size program_output (bytes "M") with_function)
same_apart =
    replaced_answer (bytes "_+_") (bytes "plus") with_operator with_function its_modules replaced (bytes "M") memory_size memory_size program_output
    program_output operator_accepted (omega arith)

-- ---- computed: the name stands behind `a` now, and the numbers of the hidden functions have changed places

pub listings :
    (listing (answer memory_size program_output (bytes "M") with_operator) ≡ bytes "module=M\nsort=A\norigin=[X,export,sort,A]\nfunction=_*_:A#A->A\norigin=[X,export,function,_+_:A#A->A]\nfunction=_+_:A#A->A\norigin=[X,export,function,_+_:A#A->A]\nfunction=a:->A\norigin=[X,export,function,a:->A]\nhidden-sort={1}\norigin=[H,hidden,sort,B]\nhidden-function={2}:{1}#{1}->{1}\norigin=[H,hidden,function,_+_:B#B->B]\nhidden-function={3}:->{1}\norigin=[H,hidden,function,b:->B]\nhidden-function={4}:A->A\norigin=[S,hidden,function,d:T->T]\nhidden-function={5}:A->A\norigin=[X,hidden,function,-_:A->A]\nvariable={6}:A\norigin=[S,hidden,variable,t:->T]\nequation=[e] _*_({5}(a),a)=a\nequation=[e] _+_({5}(a),a)=a\nequation=[f] _*_(a,_*_(a,a))=a\nequation=[f] _+_(a,_+_(a,a))=a\nequation=[i] _+_({4}({6}),{6})={6}\nequation=[h] {2}({3},{3})={3}\nend=M\n")
    × (listing (answer memory_size program_output (bytes "M") with_function) ≡ bytes "module=M\nsort=A\norigin=[X,export,sort,A]\nfunction=_*_:A#A->A\norigin=[X,export,function,plus:A#A->A]\nfunction=a:->A\norigin=[X,export,function,a:->A]\nfunction=plus:A#A->A\norigin=[X,export,function,plus:A#A->A]\nhidden-sort={1}\norigin=[H,hidden,sort,B]\nhidden-function={2}:->{1}\norigin=[H,hidden,function,b:->B]\nhidden-function={3}:{1}#{1}->{1}\norigin=[H,hidden,function,plus:B#B->B]\nhidden-function={4}:A->A\norigin=[S,hidden,function,d:T->T]\nhidden-function={5}:A->A\norigin=[X,hidden,function,-_:A->A]\nvariable={6}:A\norigin=[S,hidden,variable,t:->T]\nequation=[e] _*_({5}(a),a)=a\nequation=[e] plus({5}(a),a)=a\nequation=[f] _*_(a,_*_(a,a))=a\nequation=[f] plus(a,plus(a,a))=a\nequation=[i] plus({4}({6}),{6})={6}\nequation=[h] {3}({2},{2})={2}\nend=M\n")
unfolding all_opened with_operator with_function
listings = (refl, refl)

-- ---- why depth is among the sizes: operands in a row open no bracket, as calls they open one each

unfoldable pub sums : ℕ → List ℕ
sums zero = bytes "a"
sums (suc k) = sums k ++ bytes " + a"

unfoldable pub calls : ℕ → List ℕ
calls zero = bytes "a"
calls (suc k) = bytes "plus(" ++ (calls k ++ bytes ",a)")

unfoldable pub summed : ℕ → Texts
summed k =
    two_texts [] (bytes "module M begin exports begin sorts A functions a:->A _+_:A#A->A end equations [e] " ++ (sums k ++ bytes " = a end M"))

unfoldable pub called : ℕ → Texts
called k =
    two_texts [] (bytes "module M begin exports begin sorts A functions a:->A plus:A#A->A end equations [e] " ++ (calls k ++ bytes " = a end M"))

-- sixteen operands are one deep, and sixteen as calls: both are read
pub sixteen_replaced : Replaced (bytes "_+_") (bytes "plus") (summed 15) (called 15) (modules_in (read_texts (summed 15)))
unfolding all_opened changing_opened modules_in sums calls summed called replace
sixteen_replaced = record { is_one = refl; is_none = refl; fresh = refl; read_as = record { reads = refl }; read_as' = record { reads = refl } }

-- seventeen are accepted, but not as calls: 4, at the sixteenth bracket
pub seventeen_accepted : (answer memory_size program_output (bytes "M") (summed 16)).number ≡ accepted
unfolding all_opened sums summed
seventeen_accepted = refl

pub seventeen_deep : read_texts (called 16) ≡ refused_in false over_size 162
unfolding all_opened calls called
seventeen_deep = refl
