use Rattle.std.proofs.Common.{IfSome, None, Option, Some, ap, arith, length, subst, sym, true, ◌+◌, ◌∙◌, ◌≡◌, ◌≤◌}
use Rattle.nap_mend.specs.Mending.{bits_begin, bits_end, bits_in}
use Rattle.nap_mend.specs.Pages.{is_whole_page, span_of}
use Rattle.nap_mend.specs.Plain.{coded_of}
use Rattle.nap_mend.specs.Sets.{bytes_in}
use Rattle.nap_mend.specs.declared.{page.Place.Place, sets.Span.Span}
use Rattle.nap_mend.proofs.MendLemmas.{borders_cover, mended_is, page_is, parts_are, plain_few, plain_is, place_is, within_bits}
use Rattle.nap_mend.proofs.mended.mend.Goals as goal

pub mending_at-requires-clause-coded : goal.mending_at-requires-clause-coded
mending_at-requires-clause-coded c =
    c.coded_of-coded.ensures.coded ∙ ap (λ (s : Span). coded_of (bytes_in s c.args.bytes.now)) c.body_span-body.ensures.span

pub mending_at-requires-clause-within : goal.mending_at-requires-clause-within
mending_at-requires-clause-within c =
    let p = c.args.bytes.now in
    let coded = c.coded_of-coded.result in
    let from = c.body_span-body.result.begin in
    let within = subst (λ (o : Option Place). IfSome o (λ place. place.end ≤ length c.as_slice.result.now)) c.in-Some.is c.in_ok-place.ensures.within in
    let few = plain_few p coded.bits (from + coded.begin) (from + coded.end) c.as_slice.result.now (c.as_slice.ensures.value ∙ c.in_ok-plain.ensures) in
    omega (arith, few, within, c.coded_of-coded.ensures.order)

pub returns-in-Some-clause-found : goal.returns-in-Some-clause-found
returns-in-Some-clause-found c =
    let p = c.args.bytes.now in
    let first = c.body_span-body.ensures.span in
    let second = c.coded_of-coded.ensures.coded ∙ ap (λ (s : Span). coded_of (bytes_in s p)) first in
    let plain = c.as_slice.ensures.value ∙ c.in_ok-plain.ensures ∙ plain_is p c.body_span-body.result c.coded_of-coded.result first second in
    let place = place_is p c.coded_of-coded.result c.as_slice.result.now _ (Some c.in-Some.place) second plain c.in_ok-place.ensures.found c.in-Some.is in
    ap Some c.in_ok-found-in-Some.ensures.mending ∙ sym (mended_is p (Some c.in-Some.place) (sym c.in_ok-is_stream.ensures ∙ c.if-branch.false) place)

pub returns-in-Some-clause-page : goal.returns-in-Some-clause-page
returns-in-Some-clause-page c =
    let p = c.args.bytes.now in
    let coded = c.coded_of-coded.result in
    let body = c.body_span-body.result in
    let first = c.body_span-body.ensures.span in
    let second = c.coded_of-coded.ensures.coded ∙ ap (λ (s : Span). coded_of (bytes_in s p)) first in
    let plain = c.as_slice.ensures.value ∙ c.in_ok-plain.ensures ∙ plain_is p body coded first second in
    let order = subst (λ (o : Option Place). IfSome o (λ place. place.begin ≤ place.end)) c.in-Some.is c.in_ok-place.ensures.order in
    let within = subst (λ (o : Option Place). IfSome o (λ place. place.end ≤ length c.as_slice.result.now)) c.in-Some.is c.in_ok-place.ensures.within in
    let page = subst (λ (o : Option Place). IfSome o (λ place. is_whole_page (bytes_in (span_of place) c.as_slice.result.now) ≡ true)) c.in-Some.is c.in_ok-place.ensures.page in
    let few = plain_few p (bits_in p).bits (bits_begin p) (bits_end p) c.as_slice.result.now plain in
    page_is p c.in-Some.place c.in_ok-found-in-Some.found c.as_slice.result.now c.in_ok-found-in-Some.ensures.mending order (omega (arith, few, within)) plain page

pub returns-in-Some-clause-covers : goal.returns-in-Some-clause-covers
returns-in-Some-clause-covers c =
    let p = c.args.bytes.now in
    let coded = c.coded_of-coded.result in
    let body = c.body_span-body.result in
    let first = c.body_span-body.ensures.span in
    let second = c.coded_of-coded.ensures.coded ∙ ap (λ (s : Span). coded_of (bytes_in s p)) first in
    let order = subst (λ (o : Option Place). IfSome o (λ place. place.begin ≤ place.end)) c.in-Some.is c.in_ok-place.ensures.order in
    let within = subst (λ (o : Option Place). IfSome o (λ place. place.end ≤ length c.as_slice.result.now)) c.in-Some.is c.in_ok-place.ensures.within in
    let few = plain_few p coded.bits (body.begin + coded.begin) (body.begin + coded.end) c.as_slice.result.now (c.as_slice.ensures.value ∙ c.in_ok-plain.ensures) in
    let size = within_bits p body.begin body.end coded.end c.coded_of-coded.ensures.within c.body_span-body.ensures.order in
    parts_are p c.in-Some.place c.in_ok-found-in-Some.found c.in_ok-found-in-Some.ensures.mending
    (borders_cover p body coded c.in-Some.place first second c.coded_of-coded.ensures.order size c.body_span-body.ensures.within c.body_span-body.ensures.file order
    (omega (arith, few, within, c.coded_of-coded.ensures.order)))

pub returns-clause-found : goal.returns-clause-found
returns-clause-found c =
    let p = c.args.bytes.now in
    let first = c.body_span-body.ensures.span in
    let second = c.coded_of-coded.ensures.coded ∙ ap (λ (s : Span). coded_of (bytes_in s p)) first in
    let plain = c.as_slice.ensures.value ∙ c.in_ok-plain.ensures ∙ plain_is p c.body_span-body.result c.coded_of-coded.result first second in
    let place = place_is p c.coded_of-coded.result c.as_slice.result.now _ None second plain c.in_ok-place.ensures.found c.in-None.is in
    sym (mended_is p None (sym c.in_ok-is_stream.ensures ∙ c.if-branch.false) place)
