-- The premises of import order can be met: a library and two texts over it whose imports stand in another order, some of them twice, in two
-- modules; what both list; what may differ where they are refused; and why both must be read.
use Rattle.std.specs.Prelude.{◌≡◌, refl, ℕ}
use mathlib.Core.List.{List, [], ◌∷◌, Memᴰ}
use Rattle.meaning.specs.Names.{bytes}
use Rattle.meaning.specs.Numbers.{memory_size, program_output, accepted, over_size, clashing, bad_renaming, bad_parameter}
use Rattle.meaning.specs.Syntax.{Import, Module}
use Rattle.meaning.specs.Texts.{Texts, two_texts, read_texts}
use Rattle.meaning.specs.Checks.{lone}
use Rattle.meaning.specs.Answer.{listing, refusal, answer}
use Rattle.meaning.specs.Opened.{all_opened}
use Rattle.laws.specs.EveryLaws.{every_member}
use Rattle.promises_instances.specs.Instance.{modules_in}
use Rattle.promises_import_order.specs.Sets.{SameSet, set_itself}
use Rattle.promises_import_order.specs.Order.{OtherOrder, with_imports}
use Rattle.promises_import_order.specs.ImportOrder.{Reordered, SameOutcome}
use Rattle.promises_import_order.proofs.ImportOrder.{import_order}

-- ---- two pairs of texts. The parameter of the library's A arrives at M on every way

unfoldable pub in_one_order : Texts
in_one_order = two_texts (bytes "module S begin exports begin sorts S functions _+_:S#S->S end end S module A begin parameters P begin sorts X functions p:X->S end P exports begin functions a:X->S end imports S variables x:->X equations [e] a(x)=p(x)+p(x) end A") (bytes "module B begin exports begin sorts T functions t:T->S end imports A, S end B module M begin imports A, B, A { renamed by [a->b] } end M")

unfoldable pub in_another : Texts
in_another = two_texts (bytes "module S begin exports begin sorts S functions _+_:S#S->S end end S module A begin parameters P begin sorts X functions p:X->S end P exports begin functions a:X->S end imports S variables x:->X equations [e] a(x)=p(x)+p(x) end A") (bytes "module B begin exports begin sorts T functions t:T->S end imports S, A, S end B module M begin imports B, A { renamed by [a->b] }, A, A, B end M")

first : {A : Type 0} {x : A} {ys : List A} → Memᴰ x (x ∷ ys)
first = Memᴰ.head refl

second : {A : Type 0} {x y : A} {ys : List A} → Memᴰ x (y ∷ x ∷ ys)
second = Memᴰ.tail first

third : {A : Type 0} {x y z : A} {ys : List A} → Memᴰ x (y ∷ z ∷ x ∷ ys)
third = Memᴰ.tail second

two_as_three : {A : Type 0} {a b : A} → SameSet (a ∷ b ∷ []) (b ∷ a ∷ b ∷ [])
two_as_three {A} {a} {b} = record {
  to = every_member (λ x. Memᴰ x (b ∷ a ∷ b ∷ [])) (a ∷ b ∷ []) (second, (first, tt));
  from = every_member (λ x. Memᴰ x (a ∷ b ∷ [])) (b ∷ a ∷ b ∷ []) (second, (first, (second, tt)));
}

three_as_five : {A : Type 0} {a b c : A} → SameSet (a ∷ b ∷ c ∷ []) (b ∷ c ∷ a ∷ a ∷ b ∷ [])
three_as_five {A} {a} {b} {c} = record {
  to = every_member (λ x. Memᴰ x (b ∷ c ∷ a ∷ a ∷ b ∷ [])) (a ∷ b ∷ c ∷ []) (third, (first, (second, tt)));
  from = every_member (λ x. Memᴰ x (a ∷ b ∷ c ∷ [])) (b ∷ c ∷ a ∷ a ∷ b ∷ []) (second, (third, (first, (first, (second, tt)))));
}

pub reordered : Reordered in_one_order in_another (modules_in (read_texts in_one_order)) (modules_in (read_texts in_another))
unfolding all_opened modules_in in_one_order in_another
reordered = record {
  read_as = record { reads = refl };
  read_as' = record { reads = refl };
  alike = (but_for (set_itself _), (but_for (set_itself _), (but_for two_as_three, (but_for three_as_five, tt))));
}
  where
    but_for : {m : Module} {is : List Import} → SameSet m.imports is → OtherOrder m (with_imports m is)
    but_for s = record { name = refl; parameters = refl; exports = refl; imports = s; hidden = refl; groups = refl; equations = refl }

pub one_outcome : SameOutcome (answer memory_size program_output (bytes "M") in_one_order) (answer memory_size program_output (bytes "M") in_another)
one_outcome = import_order in_one_order in_another _ _ reordered (bytes "M") memory_size program_output

-- ---- computed: both are accepted, with one listing

unfoldable pub one_listing : List ℕ
one_listing = bytes "module=M\nsort=S\norigin=[S,export,sort,S]\nsort=T\norigin=[B,export,sort,T]\nfunction=_+_:S#S->S\norigin=[S,export,function,_+_:S#S->S]\nfunction=a:X->S\norigin=[A,export,function,a:X->S]\nfunction=b:X->S\norigin=[A,export,function,a:X->S]\nfunction=t:T->S\norigin=[B,export,function,t:T->S]\nparameter=P\nparameter-sort=X\norigin=[A,parameter P,sort,X]\nparameter-function=p:X->S\norigin=[A,parameter P,function,p:X->S]\nvariable={1}:X\norigin=[A,hidden,variable,x:->X]\nequation=[e] a({1})=_+_(p({1}),p({1}))\nequation=[e] b({1})=_+_(p({1}),p({1}))\nend=M\n"

pub another_listed :
    (listing (answer memory_size program_output (bytes "M") in_one_order) ≡ one_listing)
    × (listing (answer memory_size program_output (bytes "M") in_another) ≡ one_listing)
unfolding all_opened in_one_order one_listing in_another
another_listed = (refl, refl)

-- ---- refused in both orders, and something else is told

unfoldable modules_before : List ℕ
modules_before = bytes "module S begin exports begin sorts S functions _+_:S#S->S end end S module A begin parameters P begin sorts X functions p:X->S end P exports begin functions a:X->S end imports S variables x:->X equations [e] a(x)=p(x)+p(x) end A module B begin exports begin sorts T functions t:T->S end imports S end B module C begin exports begin sorts T end end C"

-- another culprit
other_culprit :
    (answer memory_size 0 (bytes "M") (two_texts modules_before (bytes "module M begin imports A { renamed by [q->r] }, B { renamed by [k->l] } end M"))
    ≡ refusal bad_renaming 4 (bytes "M") (lone (bytes "q")) 0)
    × (answer memory_size 0 (bytes "M") (two_texts modules_before (bytes "module M begin imports B { renamed by [k->l] }, A { renamed by [q->r] } end M"))
    ≡ refusal bad_renaming 4 (bytes "M") (lone (bytes "k")) 0)
unfolding all_opened modules_before
other_culprit = (refl, refl)

-- another number
other_number :
    (answer memory_size 0 (bytes "M") (two_texts modules_before (bytes "module M begin imports A { renamed by [X->Y] }, A, B, C end M"))
    ≡ refusal bad_parameter 5 (bytes "M") (lone (bytes "P")) 0)
    × (answer memory_size 0 (bytes "M") (two_texts modules_before (bytes "module M begin imports B, C, A, A { renamed by [X->Y] } end M"))
    ≡ refusal clashing 5 (bytes "M") (lone (bytes "T")) 0)
unfolding all_opened modules_before
other_number = (refl, refl)

-- ---- sixteen import expressions are read, seventeen are not

seventeen_unread :
    ((answer memory_size program_output (bytes "M") (two_texts [] (bytes "module A begin end A module M begin imports A, A, A, A, A, A, A, A, A, A, A, A, A, A, A, A end M"))).number ≡ accepted)
    × ((answer memory_size program_output (bytes "M") (two_texts [] (bytes "module A begin end A module M begin imports A, A, A, A, A, A, A, A, A, A, A, A, A, A, A, A, A end M"))).number ≡ over_size)
unfolding all_opened
seventeen_unread = (refl, refl)
