-- Parts that are larger than those before are nested.
use Rattle.std.proofs.Common.{◌≡◌, ◌++◌, ◌∷◌, ◌-◌, [], List, Bool, Err, IfOk, Ok, Result, Vec, true, false, length, refl, slice_get, sub-one, subst, sym}
use Rattle.std.specs.declared.alloc.Global.{Global}
use Rattle.server_symbols.specs.Selections.{AreNested, grown, grown_by, may_follow}
use Rattle.server_symbols.specs.declared.tokens.Extent.{Extent}

last_of_more : (a b : Extent) (parts : List Extent) → slice_get (a ∷ b ∷ parts) (length (a ∷ b ∷ parts) - 1) ≡ slice_get (b ∷ parts) (length (b ∷ parts) - 1)
last_of_more a b parts = simp sub-one

larger_nests : (parts : List Extent) (extent : Extent) → AreNested parts → may_follow (slice_get parts (length parts - 1)) extent ≡ true → AreNested (parts ++ extent ∷ [])
larger_nests [] extent h e = tt
larger_nests (a ∷ []) extent h e = (e, tt)
larger_nests (a ∷ b ∷ parts) extent (l, h) e = (l, larger_nests (b ∷ parts) extent h (subst (λ o. may_follow o extent ≡ true) (last_of_more a b parts) e))

choice_nests : (parts : List Extent) (extent : Extent) (b : Bool) → may_follow (slice_get parts (length parts - 1)) extent ≡ b → AreNested parts → AreNested (grown parts extent)
choice_nests parts extent true e h = rw e (larger_nests parts extent h e)
choice_nests parts extent false e h = rw e h

pub grown_nest : (parts extents : List Extent) → AreNested parts → AreNested (grown_by parts extents)
grown_nest parts [] h = h
grown_nest parts (extent ∷ extents) h =
    grown_nest (grown parts extent) extents (choice_nests parts extent (may_follow (slice_get parts (length parts - 1)) extent) refl h)

pub nest_if : {E : Type 0} (parts : List Extent) (r : Result (Vec Extent Global) E) → IfOk r (λ extents. extents.items ≡ grown_by [] parts) → IfOk r (λ extents. AreNested extents.items)
nest_if parts (Ok extents) e = subst AreNested (sym e) (grown_nest [] parts tt)
nest_if parts (Err error) e = tt
