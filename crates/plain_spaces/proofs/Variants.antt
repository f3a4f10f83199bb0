-- Facts at one variant of a value.
use Rattle.std.proofs.Common.{◌≡◌, refl, subst}
use Rattle.std.specs.Prelude.{Option, Some, None, IsSome, Result, Ok, Err, OnOk, OnErr}
use Rattle.std.specs.Option.{OnSome, option_copied_mut}
use Rattle.std.specs.Borrow.{MutBor}

-- a fact that holds where a value is there holds at a borrow of it
pub on_some : {A P : Type 0} (r : Option (MutBor A)) (o : Option A) → option_copied_mut r ≡ o → (IsSome o → P) → OnSome r P
on_some None o e h = tt
on_some (Some x) o e h = h (subst (λ q. IsSome q) e refl)

-- a fact that holds, at an error
pub on_err : {A E P : Type 0} (r : Result A E) → P → OnErr r P
on_err (Ok x) h = tt
on_err (Err e) h = h

-- a fact at one variant, from another
pub ok_from : {A E P Q : Type 0} (r : Result A E) → (P → Q) → OnOk r P → OnOk r Q
ok_from (Ok x) f h = f h
ok_from (Err e) f h = tt

pub err_from : {A E P Q : Type 0} (r : Result A E) → (P → Q) → OnErr r P → OnErr r Q
err_from (Ok x) f h = tt
err_from (Err e) f h = f h

-- a borrow that is there
pub some_borrow : {A P : Type 0} (r : Option (MutBor A)) (x : MutBor A) → r ≡ Some x → OnSome r P → P
some_borrow {P = P} r x e h = subst (λ o. OnSome o P) e h
