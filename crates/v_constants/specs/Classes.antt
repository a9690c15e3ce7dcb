-- The classes of operators, as the code has them.
use Rattle.v_meaning.specs.Senses as m
use Rattle.v_constants.specs.declared.classes.Class.{Class}
use Rattle.v_constants.specs.declared.classes.Class.TheVariants as c

abbrev pub class_in : Class → m.Class
class_in c.Shared = m.Shared
class_in c.Compared = m.Compared
class_in c.Shifted = m.Shifted
class_in c.Logical = m.Logical
