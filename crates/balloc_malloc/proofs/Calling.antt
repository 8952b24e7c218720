-- Calls by a seat.
use Rattle.std.proofs.Common.{◌≡◌, ℕ, List, Option, None, Some, sym, refl, subst}
use denote.RawPtr.{Ptr}
use Rattle.plain_words.specs.declared.plain.PlainWords.{PlainWords}
use Rattle.balloc_malloc.specs.declared.entry.Entry.{Entry}
use Rattle.balloc_malloc.specs.declared.tenant.Tenant.{Tenant}
use Rattle.balloc_malloc.specs.Bundles.{EmptiesBy, IsEmptied}
use Rattle.balloc_malloc.specs.Gives.{GivesBy, IsBack}
use Rattle.balloc_malloc.specs.Out.{HasOut, IsLent}
use Rattle.balloc_malloc.specs.Resizes.{Resizes, ResizesBy}
use Rattle.balloc_malloc.specs.Takes.{Serves, ServesBy, Takes, TakesBy}

pub takes_by :
    (was : Option Tenant) (before after : Tenant) (bytes code : ℕ) (words : Option PlainWords) (p : Ptr) → was ≡ Some before → Takes before bytes code words p after
    → TakesBy was bytes code words p (Some after)
takes_by was before after bytes code words p is takes = subst (λ (o : Option Tenant). TakesBy o bytes code words p (Some after)) (sym is) (after, refl, takes)

pub serves_by :
    (was : Option Tenant) (before after : Tenant) (bytes code : ℕ) (words : Option PlainWords) (p : Ptr) → was ≡ Some before
    → Serves before bytes code words p after → ServesBy was bytes code words p (Some after)
serves_by was before after bytes code words p is serves = subst (λ (o : Option Tenant). ServesBy o bytes code words p (Some after)) (sym is) (after, refl, serves)

pub gives_by : (was : Option Tenant) (before after : Tenant) (first : ℕ) → was ≡ Some before → IsBack before first after → GivesBy was first (Some after)
gives_by was before after first is back = subst (λ (o : Option Tenant). GivesBy o first (Some after)) (sym is) (after, refl, back)

pub lent_of : (was : Option Tenant) (before : Tenant) (words : PlainWords) (first size : ℕ) → was ≡ Some before → HasOut was words first size → IsLent before words first size
lent_of was before words first size is = subst (λ (o : Option Tenant). HasOut o words first size) is

pub out_some : (was : Option Tenant) (words : PlainWords) (first size : ℕ) → HasOut was words first size → (tenant : Tenant) × (was ≡ Some tenant)
out_some None words first size out = absurd out
out_some (Some tenant) words first size out = (tenant, refl)

pub resizes_by :
    (was : Option Tenant) (before after : Tenant) (words : PlainWords) (size bytes code : ℕ) (told : Option PlainWords) (p : Ptr) → was ≡ Some before
    → Resizes before words size bytes code told p after → ResizesBy was words size bytes code told p (Some after)
resizes_by was before after words size bytes code told p is resizes =
    subst (λ (o : Option Tenant). ResizesBy o words size bytes code told p (Some after)) (sym is) (after, refl, resizes)

pub empties_by : (was : Option Tenant) (before after : Tenant) (had left : List Entry) → was ≡ Some before → IsEmptied before had after left → EmptiesBy was had (Some after) left
empties_by was before after had left is emptied = subst (λ (o : Option Tenant). EmptiesBy o had (Some after) left) (sym is) (after, refl, emptied)
