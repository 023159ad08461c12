use Rattle.export_steps.proofs.HoldingSteps.{cancel_holding, freeze_holding, import_holding, prep_holding, send_holding, start_holding}
use Rattle.export_steps.proofs.laws.steps_and_holding.Goals as goal

pub returns-clause-start : goal.returns-clause-start
returns-clause-start c = start_holding

pub returns-clause-freeze : goal.returns-clause-freeze
returns-clause-freeze c = freeze_holding

pub returns-clause-prep : goal.returns-clause-prep
returns-clause-prep c = prep_holding

pub returns-clause-send : goal.returns-clause-send
returns-clause-send c = send_holding

pub returns-clause-import : goal.returns-clause-import
returns-clause-import c = import_holding

pub returns-clause-cancel : goal.returns-clause-cancel
returns-clause-cancel c = cancel_holding
