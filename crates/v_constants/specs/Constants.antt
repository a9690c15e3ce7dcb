-- Which constant an expression stands for.
use Rattle.std.specs.Prelude.{◌≡◌, List, [], true}
use Rattle.v_syntax.specs.declared.expr.Expr.{Expr}
use Rattle.v_meaning.specs.Views.{no_view}
use Rattle.v_meaning.specs.Senses.{Sense}
use Rattle.v_meaning.specs.declared.names.Entry.{Entry}
use Rattle.v_meaning.specs.Expressions.{sense_of}
use Rattle.v_meaning.specs.Proper.{is_proper}
use Rattle.v_constants.specs.declared.body.Open.{Open}
use Rattle.v_constants.specs.Bodies.{sense_in}

-- what is meant by what looks at nothing
abbrev pub still : Sense → Sense
still x = record { width = x.width; signed = x.signed; at = λ w s v. x.at w s no_view }

-- the meaning of an expression, as a constant one
abbrev pub constant_sense : List Entry → Expr → Sense
constant_sense names x = still (sense_of names [] x)

-- The expression is a proper constant, and this one.
pub record IsConstant (names : List Entry) (x : Expr) (o : Open) : Type 0 where
  pub proper : is_proper names x ≡ true
  pub means : sense_in o ≡ constant_sense names x
