use Rattle.sub_listing.proofs.show.list_subtitles.Goals as goal

pub returns-clause-listing : goal.returns-clause-listing
returns-clause-listing g c =
    rw (c.new.ensures.reader, c.new.ensures.count) at c.list.ensures.listing
