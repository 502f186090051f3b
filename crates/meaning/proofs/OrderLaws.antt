-- Names are level only when their bytes are the same.
use Rattle.std.proofs.Math.Path.{◌≡◌}
use Rattle.std.proofs.Math.Bool.{true}
use Rattle.meaning.specs.Names.{Name, same, elements, weights, not_after}
use Rattle.meaning.specs.ElementLaws.{weights_told, name_told}
use Rattle.meaning.specs.OrderLaws.{Levelled, bytes_antisymmetric, names_ordered, level_texts}

pub not_after_antisymmetric : (v w : Name) → not_after v w ≡ true → not_after w v ≡ true → v ≡ w
unfolding not_after
not_after_antisymmetric v w e f = name_told v w (weights_told _ _ (bytes_antisymmetric (weights (elements v)) (weights (elements w)) e f))

pub names_levelled : Levelled same not_after
names_levelled = level_texts not_after names_ordered not_after_antisymmetric
