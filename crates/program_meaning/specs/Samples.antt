-- What is printed for a diagram, computed: boxes and what stands in them, modules that are absent or late, and each refusal of the call's own.
use Rattle.std.specs.Prelude.{◌≡◌, refl}
use Prim.Native.String.{String}
use Rattle.meaning.specs.Names.{bytes}
use Rattle.meaning.specs.Numbers.{memory_size}
use Rattle.program_meaning.specs.Program.{asfnorm, asfnorm_with}
use Rattle.program_meaning.specs.Opened.{all_opened}

-- M imports N twice, the second time with its parameter bound; N imports itself, and a module that is nowhere
abbrev twice : String
twice = "diagram=M\nmodule N begin parameters P begin end P imports N, Z end N module M begin imports N, N { P bound by [ X -> Y ] to A } end M"

boxes_printed :
    asfnorm (bytes twice)
    ≡ bytes "answer=0\nmodules=0\nbox=0,M\nbox=1,N\nparameter=1,P\nabsent=2,N\nabsent=2,Z\nbox=1,N\nparameter=1,P\nbind=1,P,A\nabsent=2,N\nabsent=2,Z\n"
unfolding all_opened
boxes_printed = refl

-- the asked module is absent; the text is not read; the output is one byte short
absent_printed : asfnorm (bytes "diagram=Q\nmodule M begin end M") ≡ bytes "answer=6\nmodules=0\nmodule=Q\nname=Q\nat=0\n"
unfolding all_opened
absent_printed = refl

unread_printed : asfnorm (bytes "diagram=M\nmodule M begin end N") ≡ bytes "answer=3\nmodules=0\nmodule=\nname=\nat=19\n"
unfolding all_opened
unread_printed = refl

short_printed : asfnorm_with memory_size 7 (bytes "diagram=M\nmodule M begin end M") ≡ bytes "answer=19\nmodules=0\nmodule=M\nname=\nat=0\n"
unfolding all_opened
short_printed = refl
