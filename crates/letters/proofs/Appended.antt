-- What is heard of a file's first part and then of the rest is what is heard of the whole: a standing state may be kept beside a file that
-- grows, and each new entry heard once.
use mathlib.Core.Path.{◌≡◌, refl}
use mathlib.Core.List.{List, [], ◌∷◌, ◌++◌}
use Rattle.letters.specs.Letters.{Heard, hear_of, heard_from}
use Rattle.letters.specs.declared.Standing.{Standing}

pub heard_append : (s : Standing) (xs ys : List Heard) → heard_from s (xs ++ ys) ≡ heard_from (heard_from s xs) ys
unfolding heard_from
heard_append s [] ys = refl
heard_append s (x ∷ xs) ys = heard_append (hear_of s x.question x.mask x.reading x.values) xs ys
