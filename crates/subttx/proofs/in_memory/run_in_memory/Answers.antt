-- By the law about all runs, the main theorem holds for the exit status of a run on files in
-- memory.
use Rattle.subttx.proofs.in_memory.run_in_memory.Goals as goal

pub returns-clause-headline : goal.returns-clause-headline
returns-clause-headline g c = (c.law_of_headline.ensures _ _ _ _ _ _ c.run.ensures).0

pub returns-clause-chosen : goal.returns-clause-chosen
returns-clause-chosen g c = (c.law_of_headline.ensures _ _ _ _ _ _ c.run.ensures).1

pub returns-clause-dropping : goal.returns-clause-dropping
returns-clause-dropping g c = (c.law_of_headline.ensures _ _ _ _ _ _ c.run.ensures).2

pub returns-clause-decoded_characters : goal.returns-clause-decoded_characters
returns-clause-decoded_characters g c = (c.law_of_headline.ensures _ _ _ _ _ _ c.run.ensures).3

pub returns-clause-files : goal.returns-clause-files
returns-clause-files g c = (c.law_of_headline.ensures _ _ _ _ _ _ c.run.ensures).4

pub returns-clause-complete : goal.returns-clause-complete
returns-clause-complete g c = (c.law_of_headline.ensures _ _ _ _ _ _ c.run.ensures).5

pub returns-clause-recording : goal.returns-clause-recording
returns-clause-recording g c = (c.law_of_headline.ensures _ _ _ _ _ _ c.run.ensures).6

pub returns-clause-recording_receivers : goal.returns-clause-recording_receivers
returns-clause-recording_receivers g c = (c.law_of_headline.ensures _ _ _ _ _ _ c.run.ensures).7

pub returns-clause-recording_files : goal.returns-clause-recording_files
returns-clause-recording_files g c = (c.law_of_headline.ensures _ _ _ _ _ _ c.run.ensures).8

pub returns-clause-drawn : goal.returns-clause-drawn
returns-clause-drawn g c = (c.law_of_headline.ensures _ _ _ _ _ _ c.run.ensures).9

pub returns-clause-acceptance : goal.returns-clause-acceptance
returns-clause-acceptance g c = (c.law_of_headline.ensures _ _ _ _ _ _ c.run.ensures).10
