use Rattle.std.proofs.Common.{◌≡◌, ℕ, ◌<◌, ◌/◌, None, true, length, sym, refl, ap, inl, subst, arith, ◌∙◌, get_or-set_same, slice_index}
use Rattle.std.proofs.lemmas.List.{length-set}
use Rattle.std.proofs.lemmas.Option.{same_Some}
use Rattle.memory_cache.specs.declared.page.Page.{Page}
use Rattle.memory_cache.specs.Paged.{ActsBehind, GoesBehind, IsWholeAt, page_at}
use Rattle.memory_cache.specs.Sizes.{size_number}
use Rattle.memory_cache.proofs.PagedLemmas.{IsSameBehind, acts-through, behind-through, out-by, pushed-behind, pushed-whole, ready-within, taken-in, takes-then, with_page}
use Rattle.memory_cache.proofs.TableLemmas.{page-read, pages-is, within-table}
use Rattle.memory_cache.proofs.paged.PagedCache.put.Goals as goal

pub push_at-follows-requires : goal.push_at-follows-requires
push_at-follows-requires c =
    let s = c.args.self.now in
    let k : ℕ = c.args.piece.first / 2048 in
    let o = c.requires.out in
    let within : k < length s.pages.items = within-table s.pages.items k o.page o.there in
    let read : page_at s k ≡ c.index_mut.result.now = page-read s k c.index_mut.result.now within c.index_mut.ensures.value in
    record { out = (o.page, sym read ∙ o.there, o.out) }

pub settle_page-requires-clause-paged : goal.settle_page-requires-clause-paged
settle_page-requires-clause-paged c =
    let s = c.args.self.now in
    let x = c.args.piece in
    (taken-in c.args.heap.now s x c.index_mut.result.now c.push_at-follows.new.place c.requires.paged c.requires.piece
    (out-by c.args.heap.now s c.args.number x.first x.size c.requires.paged c.requires.out) c.index_mut.ensures.value c.push_at-follows.ensures.pushed).paged

pub returns-then-not-is_whole : goal.returns-then-not-is_whole
returns-then-not-is_whole c =
    let h = c.args.heap.now in
    let s = c.args.self.now in
    let x = c.args.piece in
    let k : ℕ = x.first / 2048 in
    let came = c.push_at-follows.ensures.pushed in
    let mid = with_page s k c.push_at-follows.new.place in
    let e = c.settle_page.new.self in
    let within : k < length s.pages.items = within-table s.pages.items k c.requires.out.page c.requires.out.there in
    let read : page_at s k ≡ c.index_mut.result.now = page-read s k c.index_mut.result.now within c.index_mut.ensures.value in
    let now : page_at mid k ≡ c.push_at-follows.new.place = get_or-set_same s.pages.items k c.push_at-follows.new.place None within in
    let told = c.in-Some.ensures.key in
    let there = (c.requires.paged.pages k told.0 (read ∙ told.1)).there in
    let same : c.in-Some.key ≡ k = omega (arith, told.2, there) in
    let pushed : IsSameBehind s k mid =
    pushed-behind s mid k came.page came.left refl (read ∙ came.there) (now ∙ came.now) came.pushes.same.place came.pushes.same.need in
    record {
      back =
          takes-then h s x.first mid e
          (taken-in h s x c.index_mut.result.now c.push_at-follows.new.place c.requires.paged c.requires.piece
          (out-by h s c.args.number x.first x.size c.requires.paged c.requires.out) c.index_mut.ensures.value came)
          c.settle_page.ensures.same;
      behind =
          behind-through h s mid e e k c.args.tries pushed
          (subst (λ j. GoesBehind h mid j c.args.tries e) same c.settle_page.ensures.behind) (pages-is e e refl refl);
      sends = λ last.
          let whole = pushed-whole h s x c.index_mut.result.now c.push_at-follows.new.place c.requires.paged read came last in
          let home : IsWholeAt mid k = record { page = whole.0; there = now ∙ whole.1; home = whole.2 } in
          let one : told.0 ≡ last.page = same_Some told.0 last.page (sym (read ∙ told.1) ∙ last.there) in
          let number : c.in-Some.number ≡ size_number last.page.size = told.3 ∙ ap (λ (p : Page). size_number p.size) one in
          let ready : slice_index s.ready c.in-Some.number < length mid.pages.items =
          let is = ready-within s k last.page.size last.other in
          let long = length-set s.pages.items k c.push_at-follows.new.place in
          omega (arith, subst (λ n. slice_index s.ready n < length s.pages.items) (sym number) is, long) in
          let yes : c.in-Some.is_whole ≡ true = c.in-Some.ensures.whole whole.0 whole.1 whole.2 in
          acts-through h s mid e e k c.args.tries pushed
          (subst (λ j. ActsBehind h mid j c.args.tries e) same
          (c.settle_page.ensures.sends yes (subst (IsWholeAt mid) (sym same) home) ready))
          (pages-is e e refl refl);
      hits = c.settle_page.ensures.hits;
    }

pub returns-else-self-number : goal.returns-else-self-number
returns-else-self-number c =
    let h = c.args.heap.now in
    let s = c.args.self.now in
    let x = c.args.piece in
    let k : ℕ = x.first / 2048 in
    let within : k < length s.pages.items = within-table s.pages.items k c.requires.out.page c.requires.out.there in
    let read : page_at s k ≡ c.index_mut.result.now = page-read s k c.index_mut.result.now within c.index_mut.ensures.value in
    let told = c.in-Some.ensures.key in
    let there = (c.requires.paged.pages k told.0 (read ∙ told.1)).there in
    let same : c.in-Some.key ≡ k = omega (arith, told.2, there) in
    record {
      back =
          taken-in h s x c.index_mut.result.now c.push_at-follows.new.place c.requires.paged c.requires.piece
          (out-by h s c.args.number x.first x.size c.requires.paged c.requires.out) c.index_mut.ensures.value c.push_at-follows.ensures.pushed;
      behind = inl refl;
      sends = λ last.
          let one : told.0 ≡ last.page = same_Some told.0 last.page (sym (read ∙ told.1) ∙ last.there) in
          let number : c.in-Some.number ≡ size_number last.page.size = told.3 ∙ ap (λ (p : Page). size_number p.size) one in
          absurd (last.other.0 (ap (slice_index s.ready) (sym number) ∙ c.if-self-number.false ∙ same));
      hits = refl;
    }

pub returns-in_default : goal.returns-in_default
returns-in_default c =
    let h = c.args.heap.now in
    let s = c.args.self.now in
    let x = c.args.piece in
    let k : ℕ = x.first / 2048 in
    let within : k < length s.pages.items = within-table s.pages.items k c.requires.out.page c.requires.out.there in
    let read : page_at s k ≡ c.index_mut.result.now = page-read s k c.index_mut.result.now within c.index_mut.ensures.value in
    record {
      back =
          taken-in h s x c.index_mut.result.now c.push_at-follows.new.place c.requires.paged c.requires.piece
          (out-by h s c.args.number x.first x.size c.requires.paged c.requires.out) c.index_mut.ensures.value c.push_at-follows.ensures.pushed;
      behind = inl refl;
      sends = λ last.
          let whole = pushed-whole h s x c.index_mut.result.now c.push_at-follows.new.place c.requires.paged read c.push_at-follows.ensures.pushed last in
          absurd (c.in_default.ensures.whole whole.0 whole.1 whole.2);
      hits = refl;
    }
