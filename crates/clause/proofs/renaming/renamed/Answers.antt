use Rattle.clause.proofs.renaming.Cases.{cases}
use Rattle.clause.specs.Renaming.{make_hidden, make_check, renamed_made}
use Rattle.clause.proofs.renaming.renamed.Goals as goal

pub unite_seen-seen-requires : goal.unite_seen-seen-requires
unite_seen-seen-requires c = search cases

pub formals_noted-requires : goal.formals_noted-requires
formals_noted-requires c = search cases

pub unite_hidden-f-requires : goal.unite_hidden-f-requires
unite_hidden-f-requires c = make_hidden _ _ _ _ _ _ _ c.requires.make_room c.requires.renames c.empty_form-e.ensures _ _ c.unite_seen-seen.ensures _
    c.formals_noted.ensures

pub checked-requires : goal.checked-requires
checked-requires c = make_check _ _ _ _ _ _ _ c.requires.make_room c.requires.renames c.empty_form-e.ensures _ _ c.unite_seen-seen.ensures _
    c.formals_noted.ensures _ _ c.unite_hidden-f.ensures

pub returns : goal.returns
returns c = renamed_made _ _ _ _ _ _ _ c.requires.make_room c.requires.renames c.empty_form-e.ensures _ _ c.unite_seen-seen.ensures _
    c.formals_noted.ensures _ _ c.unite_hidden-f.ensures _ _ c.checked.ensures
