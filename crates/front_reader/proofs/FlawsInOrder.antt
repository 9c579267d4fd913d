-- Answers: first flaws, and what is read.
use Rattle.std.proofs.Common.{◌≡◌, refl, ◌∙◌, Option, Some, None, Result, Ok, Err}
use Rattle.std.specs.Option.{option_or}
use Rattle.front_reader.specs.Flaws.{Flaw}
use Rattle.front_reader.specs.Views.{Answers, IsFirst}
use Rattle.front_reader.specs.declared.rules.flaws.ReadError.{ReadError}
use Rattle.front_reader.specs.declared.rules.flaws.ReadError.TheVariants.{Memory, Found}

pub or_none : (o : Option Flaw) → option_or o None ≡ o
or_none None = refl
or_none (Some f) = refl

pub or_assoc : (o p q : Option Flaw) → option_or (option_or o p) q ≡ option_or o (option_or p q)
or_assoc None p q = refl
or_assoc (Some f) p q = refl

-- an answer to one question as one to another with the same first flaw
pub answers_as : {X : Type 0} (o p : Option Flaw) (r : Result X ReadError) (P Q : X → Type 0) → p ≡ o
    → ((x : X) → P x → Q x) → Answers o r P → Answers p r Q
answers_as o p (Ok x) P Q e f h = (e ∙ h.0, f x h.1)
answers_as o p (Err (Memory a)) P Q e f h = tt
answers_as o p (Err (Found a)) P Q e f h = e ∙ h

-- the error of a part is that of the whole, where nothing before it is wrong
pub first_in : (o p : Option Flaw) (e : ReadError) → IsFirst o e → IsFirst (option_or o p) e
first_in o p (Memory a) h = tt
first_in o p (Found a) h = rw h refl

pub first_as : (o p : Option Flaw) (e : ReadError) → p ≡ o → IsFirst o e → IsFirst p e
first_as o p (Memory a) e h = tt
first_as o p (Found a) e h = e ∙ h

pub answers_err : {X : Type 0} (o : Option Flaw) (r : Result X ReadError) (P : X → Type 0) (e : ReadError)
    → r ≡ Err e → IsFirst o e → Answers o r P
answers_err o r P e h f = rw h f

-- where nothing is wrong with a tree by itself, and nothing in it
pub or_skip : (o p q : Option Flaw) → o ≡ None → p ≡ None → option_or o (option_or p q) ≡ q
or_skip o p q e f = rw (e, f) refl
