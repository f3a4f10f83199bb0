-- Calls that are made and put down, one after another.
--     none_entered, then_entered      no call;  calls behind others
--     kind_calls, all_kinds      the calls of the items of a kind;  of all kinds in turn
--     more_items      the calls of one item more
use Rattle.std.proofs.Common.{◌≡◌, ℕ, ◌+◌, ◌<◌, Bool, true, false, cond, List, [], ◌∷◌, ◌++◌, length, take, refl, sym, ap, subst, ◌∙◌, inl, inr}
use Rattle.std.specs.Prelude.{All, filter, get_or}
use Rattle.std.specs.List.{flat_map}
use Rattle.std.proofs.lemmas.Grind.{flat_map-append}
use Rattle.std.proofs.lemmas.List.{append-nil, append_assoc, take_more}
use Rattle.std.proofs.lemmas.List.Elements.{All-cons, All-nil}
use Rattle.corten_base.specs.declared.calls.Call.{Call}
use Rattle.corten_base.specs.declared.calls.Entry.{Entry}
use Rattle.page_map.specs.State.{State}
use Rattle.page_map.specs.Step.{step}
use Rattle.image_text.specs.declared.image.Item.{Item}
use Rattle.image_text.specs.Items.{is_live, is_out}
use Rattle.space_image.specs.declared.restoring.Kind.TheVariants as Kinds
use Rattle.space_image.specs.Calls.{calls_of, is_run, item_calls, left_by}
use Rattle.space_image.specs.Restoring.{AreEntered, calls_of_kind, entered}
use Rattle.space_image.proofs.Covered.{In}
use Rattle.space_image.proofs.ItemSteps.{left_both}

entered_both : (st : State) (cs ds : List Call) → entered st (cs ++ ds) ≡ entered st cs ++ entered (left_by st cs) ds
entered_both st [] ds = refl
entered_both st (c ∷ cs) ds = ap (λ es. record { thread = 0; call = c; reply = (step st 0 c 0).0 } ∷ es) (entered_both (step st 0 c 0).1 cs ds)

pub none_entered : (st : State) (es : List Entry) → AreEntered st st es es []
none_entered st es = record { state = refl; entries = sym (append-nil es) }

pub then_entered : (st mid now : State) (old between new : List Entry) (cs ds : List Call) → AreEntered st mid old between cs → AreEntered mid now between new ds → AreEntered st now old new (cs ++ ds)
then_entered st mid now old between new cs ds first second = record {
  state = second.state ∙ ap (λ s. left_by s ds) first.state ∙ sym (left_both st cs ds);
  entries = second.entries
      ∙ (λ i. first.entries i ++ entered (first.state i) ds)
      ∙ append_assoc old (entered st cs) (entered (left_by st cs) ds)
      ∙ ap (λ es. old ++ es) (sym (entered_both st cs ds));
}

-- ---- kinds

pub kind_calls : (p : Item → Bool) (items : List Item) → flat_map (λ i. cond (p i) (item_calls i) []) items ≡ flat_map item_calls (filter p items)
kind_calls p [] = refl
kind_calls p (x ∷ xs) = go (p x) (kind_calls p xs)
  where
    go : (b : Bool) → flat_map (λ i. cond (p i) (item_calls i) []) xs ≡ flat_map item_calls (filter p xs) →
        cond b (item_calls x) [] ++ flat_map (λ i. cond (p i) (item_calls i) []) xs ≡ flat_map item_calls (cond b (x ∷ filter p xs) (filter p xs))
    go true h = ap (λ cs. item_calls x ++ cs) h
    go false h = h

pub all_kinds : (items : List Item) → (flat_map (calls_of_kind Kinds.Out) items ++ flat_map (calls_of_kind Kinds.Live) items) ++ flat_map (calls_of_kind Kinds.Run) items ≡ calls_of items
all_kinds items =
    (λ i. (kind_calls is_out items i ++ kind_calls is_live items i) ++ kind_calls is_run items i)
    ∙ ap (λ cs. cs ++ flat_map item_calls (filter is_run items)) (sym (flat_map-append item_calls (filter is_out items) (filter is_live items)))
    ∙ sym (flat_map-append item_calls (filter is_out items ++ filter is_live items) (filter is_run items))

-- ---- one item more

flat_one : (f : Item → List Call) (x : Item) → flat_map f (x ∷ []) ≡ f x
flat_one f x = append-nil (f x)

pub more_entered : (f : Item → List Call) (items : List Item) (i : ℕ) (d : Item) (st mid now : State) (old between new : List Entry) → i < length items →
    AreEntered st mid old between (flat_map f (take i items)) → AreEntered mid now between new (f (get_or items i d)) → AreEntered st now old new (flat_map f (take (i + 1) items))
more_entered f items i d st mid now old between new below first second =
    subst (AreEntered st now old new)
    (sym (ap (flat_map f) (take_more items i d below) ∙ flat_map-append f (take i items) (get_or items i d ∷ []) ∙ ap (λ cs. flat_map f (take i items) ++ cs) (flat_one f (get_or items i d))))
    (then_entered st mid now old between new (flat_map f (take i items)) (f (get_or items i d)) first second)

pub all_in : (P : Item → Type 0) (xs : List Item) → ((x : Item) → In x xs → P x) → All P xs
all_in P [] h = All-nil P
all_in P (x ∷ xs) h = All-cons P x xs (h x (inl refl)) (all_in P xs (λ y later. h y (inr later)))
